-- How a call answers a reading.
use Rattle.std.specs.Prelude.{◌≡◌}
use Rattle.bech32_long.specs.declared.error.Bech32Error.{Bech32Error}
use Rattle.bech32_long.specs.declared.error.Bech32Error.TheVariants.{NoMemory, BadHrp, NoSeparator, MixedCase, BadCharacter, BadChecksum}
use Rattle.bech32_long.specs.Text.{Reading, Read, Has_no_separator, Has_bad_part, Has_both_cases, Has_bad_character, Has_bad_checksum}

-- the reading that an error stands for; want of memory is free
abbrev pub IsRefusal : Reading → Bech32Error → Type 0
IsRefusal reading NoMemory = Unit {0}
IsRefusal reading NoSeparator = reading ≡ Has_no_separator
IsRefusal reading BadHrp = reading ≡ Has_bad_part
IsRefusal reading MixedCase = reading ≡ Has_both_cases
IsRefusal reading (BadCharacter place) = reading ≡ Has_bad_character place
IsRefusal reading BadChecksum = reading ≡ Has_bad_checksum
