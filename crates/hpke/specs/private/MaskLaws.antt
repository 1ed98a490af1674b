-- The laws of the test KEM: proofs, and no definitions.
use Rattle.std.proofs.Common.{◌≡◌, ℕ, suc, List, [], ◌∷◌, length, Option, Some, None, refl, sym, ap, ◌∙◌, arith}
use Rattle.std.proofs.lemmas.Option.{none-some, same_Some}
use Rattle.hpke.specs.Bytes.{xor_bytes}
use Rattle.hpke.specs.Mask.{IsMaskKey, mask_key, mask_public, mask_decap, mask_encap, mask_derive}

pub length-xor_bytes : (xs ys : List ℕ) → length xs ≡ length ys → length (xor_bytes xs ys) ≡ length xs
length-xor_bytes [] ys e = refl
length-xor_bytes (x ∷ xs) [] e = absurd (omega (arith, e))
length-xor_bytes (x ∷ xs) (y ∷ ys) e = ap suc (length-xor_bytes xs ys (omega (arith, e)))

pub mask_decap-size : (sk : List ℕ) (sender : Option (List ℕ)) (enc secret : List ℕ) → IsMaskKey sk → IsMaskKey enc → mask_decap sk sender enc ≡ Some secret → length secret ≡ 32
mask_decap-size sk None enc secret s e is =
    let same : xor_bytes sk enc ≡ secret = cc in
    ap length (sym same) ∙ (length-xor_bytes sk enc (s.0 ∙ sym e.0) ∙ s.0)
mask_decap-size sk (Some sender) enc secret s e is = absurd (none-some _ is)

pub mask_derive-pair : (ikm sk pk : List ℕ) → mask_derive ikm ≡ Some (sk, pk) → pk ≡ mask_public sk
mask_derive-pair ikm sk pk is =
    let same : (mask_key ikm, mask_key ikm) ≡ (sk, pk) = same_Some _ _ is in
    sym (ap (λ (pair : List ℕ × List ℕ). pair.1) same) ∙ ap (λ (pair : List ℕ × List ℕ). pair.0) same

pub mask_encap-size : (pk : List ℕ) (sender : Option (List ℕ × List ℕ)) (draw secret enc : List ℕ) → IsMaskKey pk → length draw ≡ 32 → mask_encap pk sender draw ≡ Some (secret, enc) → length secret ≡ 32
mask_encap-size pk None draw secret enc p d is =
    let same : (xor_bytes pk draw, draw) ≡ (secret, enc) = same_Some _ _ is in
    sym (ap (λ (made : List ℕ × List ℕ). length made.0) same) ∙ (length-xor_bytes pk draw (p.0 ∙ sym d) ∙ p.0)
mask_encap-size pk (Some sender) draw secret enc p d is = absurd (none-some _ is)
