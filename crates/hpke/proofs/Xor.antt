-- XOR of two byte strings, place by place.
use Rattle.std.proofs.Common.{◌≡◌, ℕ, zero, suc, ◌<◌, List, [], ◌∷◌, length, get_or, refl, sym, ◌∙◌, arith}
use Rattle.std.specs.Prelude.{bit_xor}
use Rattle.std.proofs.lemmas.List.{ext_get_or}
use Rattle.hpke.specs.Bytes.{xor_bytes}
use Rattle.hpke.specs.private.MaskLaws.{length-xor_bytes}

pub get_or-xor_bytes : (xs ys : List ℕ) (k : ℕ) → k < length xs → k < length ys → get_or (xor_bytes xs ys) k 0 ≡ bit_xor (get_or xs k 0) (get_or ys k 0)
get_or-xor_bytes [] ys k lt lt' = absurd (omega (arith, lt))
get_or-xor_bytes (x ∷ xs) [] k lt lt' = absurd (omega (arith, lt'))
get_or-xor_bytes (x ∷ xs) (y ∷ ys) zero lt lt' = refl
get_or-xor_bytes (x ∷ xs) (y ∷ ys) (suc k) lt lt' = get_or-xor_bytes xs ys k (omega (arith, lt)) (omega (arith, lt'))

-- a list that holds the XOR at each place
pub xor_bytes-is : (zs xs ys : List ℕ) → length zs ≡ length xs → length xs ≡ length ys
    → ((k : ℕ) → k < length xs → get_or zs k 0 ≡ bit_xor (get_or xs k 0) (get_or ys k 0)) → zs ≡ xor_bytes xs ys
xor_bytes-is zs xs ys size alike each =
    let whole : length zs ≡ length (xor_bytes xs ys) = omega (arith, length-xor_bytes xs ys alike) in
    ext_get_or 0 zs (xor_bytes xs ys) whole
    (λ i lt. each i (omega arith) ∙ sym (get_or-xor_bytes xs ys i (omega arith) (omega arith)))
