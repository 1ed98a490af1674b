-- The checksum (BIP 173, section "Bech32"): a remainder of polynomials over GF(32). A polynomial is the
-- list of its coefficients, the highest first.
use Rattle.std.specs.Prelude.{◌≡◌, ℕ, zero, suc, ◌+◌, ◌-◌, ◌<◌, ◌/◌, ◌%◌, List, [], ◌∷◌, ◌++◌, length, map, replicate, bit_xor, Bool, All}
use Rattle.std.specs.Str.{bytes_eq}
use Rattle.bech32_long.specs.Field.{product}

-- the sum of two polynomials of one length
unfoldable pub sum_of : List ℕ → List ℕ → List ℕ
sum_of [] q = []
sum_of (a ∷ p) [] = []
sum_of (a ∷ p) (b ∷ q) = bit_xor a b ∷ sum_of p q

-- c·p, for an element c of the field
abbrev pub multiple : ℕ → List ℕ → List ℕ
multiple c p = map (product c) p

-- the generator x^6 + 29·x^5 + 22·x^4 + 20·x^3 + 21·x^2 + 29·x + 18, behind its highest coefficient
abbrev pub generator : List ℕ
generator = 29 ∷ 22 ∷ 20 ∷ 21 ∷ 29 ∷ 18 ∷ []

-- the remainder by the generator of a polynomial of n + 6 coefficients, by long division: a highest
-- coefficient c goes with c times the generator, which is moved up to it
unfoldable pub remainder_in : ℕ → List ℕ → List ℕ
remainder_in zero p = p
remainder_in (suc n) [] = []
remainder_in (suc n) (c ∷ p) = remainder_in n (sum_of p (multiple c generator ++ replicate n 0))

-- the remainder of the polynomial 1, whose six coefficients these are
abbrev pub one : List ℕ
one = 0 ∷ 0 ∷ 0 ∷ 0 ∷ 0 ∷ 1 ∷ []

-- the values of a human-readable part: the high three bits of each byte, 0, and the low five bits of each
abbrev pub expanded : List ℕ → List ℕ
expanded part = map (λ b. b / 32) part ++ 0 ∷ map (λ b. b % 32) part

-- the remainder of the values behind a leading 1
unfoldable pub remainder_behind_one : List ℕ → List ℕ
remainder_behind_one values = remainder_in (length values) (one ++ values)

-- what a part and values leave behind: of a whole text with its checksum it is `one`
abbrev pub residue : List ℕ → List ℕ → List ℕ
residue part values = remainder_behind_one (expanded part ++ values)

-- the six values of the checksum
abbrev pub checksum : List ℕ → List ℕ → List ℕ
checksum part values = sum_of (residue part (values ++ replicate 6 0)) one

-- the last six of the values are the checksum of the part and the values before
abbrev pub is_checked : List ℕ → List ℕ → Bool
is_checked part values = bytes_eq (residue part values) one

-- the product of two polynomials, of which b isn't empty
unfoldable pub polynomial_product : List ℕ → List ℕ → List ℕ
polynomial_product [] b = replicate (length b - 1) 0
polynomial_product (c ∷ a) b = sum_of (multiple c b ++ replicate (length a) 0) (0 ∷ polynomial_product a b)

-- r is what is left of p: p is a multiple of the generator and r, which has six coefficients
pub record IsRemainder (p r : List ℕ) : Type 0 where
  pub quotient : List ℕ
  pub elements : All (λ c. c < 32) quotient × All (λ c. c < 32) r
  pub six : length r ≡ 6
  pub whole : p ≡ sum_of (polynomial_product quotient (1 ∷ generator)) (replicate (length quotient) 0 ++ r)
