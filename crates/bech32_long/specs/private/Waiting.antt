-- Bits that wait to be written: the lowest of a number whose higher bits have been written as digits.
use Rattle.std.specs.Prelude.{◌≡◌, ℕ, ◌+◌, ◌*◌, ◌/◌, ◌%◌, ◌^◌, ◌<◌, ◌≤◌, List, All, length}
use Rattle.bech32_long.specs.Groups.{digits_of}

-- of the bits of a number, n digits of a base are written, and the lowest count bits are held
pub record Waits (base number : ℕ) (out : List ℕ) (n held count : ℕ) : Type 0 where
  pub written : out ≡ digits_of base n (number / 2 ^ count)
  pub waiting : held ≡ number % 2 ^ count

-- groups of five bits become bytes: i groups are taken, and fewer than eight bits wait
pub record IsJoining (number : ℕ) (bytes : List ℕ) (i held count : ℕ) : Type 0 where
  pub waits : Waits 256 number bytes (length bytes) held count
  pub bits : 8 * length bytes + count ≡ 5 * i
  pub few : count < 8
  pub small : held < 2 ^ count

-- bytes become groups of five bits: k groups are written, and fewer than eight bits of the bytes before
-- the place `next` wait
pub record IsSplitting (number : ℕ) (out : List ℕ) (k next held count : ℕ) : Type 0 where
  pub waits : Waits 32 number out k held count
  pub bits : 5 * k + count ≡ 8 * next
  pub few : count < 8
  pub small : held < 2 ^ count
  pub groups : All (λ v. v < 32) out

-- five bits or more wait, and the next group can be written
pub record IsReady (number : ℕ) (out : List ℕ) (k next held count : ℕ) : Type 0 where
  pub waits : Waits 32 number out k held count
  pub bits : 5 * k + count ≡ 8 * next
  pub enough : 5 ≤ count
  pub few : count < 13
  pub small : held < 2 ^ count
  pub groups : All (λ v. v < 32) out
