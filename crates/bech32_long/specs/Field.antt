-- The field GF(32) of BIP 173: polynomials over one bit modulo x^5 + x^3 + 1. An element is the number
-- below 32 whose bit i is the coefficient of x^i, so a sum is the exclusive or.
use Rattle.std.specs.Prelude.{ℕ, zero, suc, ◌-◌, ◌*◌, ◌/◌, ◌%◌, bit_xor, nat_lt, ◌==◌, if◌then◌else◌}

-- x·b: each coefficient moves up by one place, and an x^5 that comes of it is x^3 + 1
abbrev pub times_x : ℕ → ℕ
times_x b = if nat_lt b 16 then 2 * b else bit_xor (2 * b - 32) 9

-- a·b, for an a of k coefficients: a is x·(a / 2) + a % 2
unfoldable pub product_of : ℕ → ℕ → ℕ → ℕ
product_of zero a b = 0
product_of (suc k) a b = bit_xor (times_x (product_of k (a / 2) b)) (if a % 2 == 1 then b else 0)

-- a·b
unfoldable pub product : ℕ → ℕ → ℕ
product a b = product_of 5 a b
