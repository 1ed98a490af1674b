-- The fields GF(2^n) of FIPS 197, section 4, and SP 800-38D, section 6.3: polynomials over one bit,
-- modulo a polynomial of degree n. A polynomial is the number whose bit i is the coefficient of x^i,
-- so a sum is the exclusive or, and an element of the field is a number below 2^n. A field is given
-- by n and by r, which is what x^n is modulo the field's polynomial.
use Rattle.std.specs.Prelude.{ℕ, zero, suc, ◌-◌, ◌*◌, ◌/◌, ◌%◌, ◌^◌, bit_xor, nat_lt, ◌==◌, if◌then◌else◌}

-- x·b: each coefficient moves up by one place, and an x^n that comes of it is r
unfoldable pub times_x : ℕ → ℕ → ℕ → ℕ
times_x n r b = if nat_lt b (2 ^ (n - 1)) then 2 * b else bit_xor (2 * b - 2 ^ n) r

-- a·b, for an a of k coefficients: a is x·(a / 2) + a % 2, so a·b is x·((a / 2)·b), and b where a is odd
unfoldable pub product_of : ℕ → ℕ → ℕ → ℕ → ℕ → ℕ
product_of n r zero a b = 0
product_of n r (suc k) a b = bit_xor (times_x n r (product_of n r k (a / 2) b)) (if a % 2 == 1 then b else 0)
