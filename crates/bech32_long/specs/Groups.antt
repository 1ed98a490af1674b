-- Numbers by their digits, and bytes as groups of five bits (BIP 173, section "Bech32", where it says
-- how a witness program is converted).
use Rattle.std.specs.Prelude.{ℕ, zero, suc, ◌+◌, ◌-◌, ◌*◌, ◌/◌, ◌%◌, ◌^◌, List, [], ◌∷◌, ◌++◌, length}
use Rattle.std.specs.List.{fold}

-- the number with these digits, the highest first
unfoldable pub number_of : ℕ → List ℕ → ℕ
number_of base digits = fold (λ number digit. number * base + digit) 0 digits

-- the lowest n digits of a number, the highest of them first
unfoldable pub digits_of : ℕ → ℕ → ℕ → List ℕ
digits_of base zero number = []
digits_of base (suc n) number = digits_of base n (number / base) ++ number % base ∷ []

-- how many groups of five bits n bytes make, of which the last may be filled up
abbrev pub group_count : ℕ → ℕ
group_count n = (8 * n + 4) / 5

-- how many whole bytes n groups of five bits make
abbrev pub byte_count : ℕ → ℕ
byte_count n = 5 * n / 8

-- the bits of the bytes in groups of five, the highest first: zeros fill up the last group
unfoldable pub groups : List ℕ → List ℕ
groups bytes = digits_of 32 (group_count (length bytes))
    (number_of 256 bytes * 2 ^ (5 * group_count (length bytes) - 8 * length bytes))

-- the bits behind the last whole byte of these groups, as a number, and how many they are
abbrev pub leftover_count : List ℕ → ℕ
leftover_count values = 5 * length values - 8 * byte_count (length values)

abbrev pub leftover : List ℕ → ℕ
leftover values = number_of 32 values % 2 ^ leftover_count values

-- the bits of the groups as bytes, without the leftover bits
unfoldable pub whole_bytes : List ℕ → List ℕ
whole_bytes values = digits_of 256 (byte_count (length values)) (number_of 32 values / 2 ^ leftover_count values)
