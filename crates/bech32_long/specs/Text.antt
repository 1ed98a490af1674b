-- The one text of a part and bytes, and what a text is read as (BIP 173, section "Bech32", with no
-- limit on the length).
use Rattle.std.specs.Prelude.{ℕ, ◌+◌, ◌-◌, List, [], ◌∷◌, ◌++◌, length, map, take, slice_index, codes, Bool, not, nat_lt, nat_le, ◌==◌, ◌&&◌, if◌then◌else◌}
use Rattle.std.specs.List.{list_any, list_all, prefix_len, position_or_len, before_last, after_last}
use Rattle.std.specs.Char.{to_ascii_lowercase}
use Rattle.std.specs.Str.{str_to_ascii_lowercase}
use Rattle.bech32_long.specs.Groups.{groups, group_count, whole_bytes}
use Rattle.bech32_long.specs.Checksum.{checksum, is_checked}
use Rattle.bech32_long.specs.Part.{is_mixed, is_part}

-- the characters of the values 0 to 31
abbrev pub alphabet : List ℕ
alphabet = codes "qpzry9x8gf2tvdw0s3jn54khce6mua7l"

-- the character of a value below 32
abbrev pub character : ℕ → ℕ
character value = slice_index alphabet value

-- the text of a part in lower case and of values: the part, `1`, the values and their checksum
unfoldable pub spelling : List ℕ → List ℕ → List ℕ
spelling part values = part ++ 49 ∷ map character (values ++ checksum part values)

-- the text of a part in lower case and of bytes
abbrev pub encoding : List ℕ → List ℕ → List ℕ
encoding part bytes = spelling part (groups bytes)

-- the length of the text of a part of p bytes and of n bytes
abbrev pub encoding_len : ℕ → ℕ → ℕ
encoding_len p n = p + 1 + group_count n + 6

-- the value of a character in either case, and 32 for others
unfoldable pub value_of : ℕ → ℕ
value_of c = position_or_len (λ a. a == to_ascii_lowercase c) alphabet

-- the character has a value
abbrev pub is_character : ℕ → Bool
is_character c = nat_lt (value_of c) 32

-- the byte is the separator, `1`
abbrev pub is_separator : ℕ → Bool
is_separator b = b == 49

-- what stands before the last separator, and behind it
abbrev pub part_of : List ℕ → List ℕ
part_of text = before_last is_separator text

abbrev pub data_of : List ℕ → List ℕ
data_of text = after_last is_separator text

-- the values behind the separator, but for the last six
abbrev pub data_values : List ℕ → List ℕ
data_values text = take (length (data_of text) - 6) (map value_of (data_of text))

-- what a text is read as: a part in lower case and bytes, or why it is refused
pub data Reading : Type 0 where
  Read : (part bytes : List ℕ) → Reading
  Has_no_separator : Reading
  Has_bad_part : Reading
  Has_both_cases : Reading
  Has_bad_character : (place : ℕ) → Reading
  Has_bad_checksum : Reading

-- what a part in lower case and all values of a text are read as
abbrev pub checked : List ℕ → List ℕ → Reading
checked part values =
    if nat_le 6 (length values) && is_checked part values
    then Read part (whole_bytes (take (length values - 6) values))
    else Has_bad_checksum

-- What a text is read as. The first refusal that applies holds; a place counts from the first byte of
-- the text.
unfoldable pub reading : List ℕ → Reading
reading text =
    if not (list_any is_separator text) then Has_no_separator
    else if not (is_part (part_of text)) then Has_bad_part
    else if is_mixed text then Has_both_cases
    else if not (list_all is_character (data_of text)) then Has_bad_character (length (part_of text) + 1 + prefix_len is_character (data_of text))
    else checked (str_to_ascii_lowercase (part_of text)) (map value_of (data_of text))
