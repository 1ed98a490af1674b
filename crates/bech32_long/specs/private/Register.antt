-- The checksum's register: the six coefficients of a remainder as a number of 30 bits.
use Rattle.std.specs.Prelude.{ℕ, ◌+◌, ◌*◌, ◌/◌, ◌%◌, ◌^◌, List, bit_xor, slice_index}
use Rattle.std.specs.List.{fold}
use Rattle.bech32_long.specs.declared.checksum.TheConstants.{MULTIPLES}

-- the register after one more value
unfoldable pub next_register : ℕ → ℕ → ℕ
next_register register value = bit_xor (register % 2 ^ 25 * 32 + value) (slice_index MULTIPLES (register / 2 ^ 25))

-- the register after these values
unfoldable pub register_after : ℕ → List ℕ → ℕ
register_after register values = fold next_register register values
