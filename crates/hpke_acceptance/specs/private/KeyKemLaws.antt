-- The laws of the KEM whose secret is a key: proofs, and no definitions.
use Rattle.std.proofs.Common.{◌≡◌, ℕ, List, length, Bool, true, false, Option, Some, None, refl, sym, ap, ◌∙◌}
use Rattle.std.specs.Prelude.{nat_eq, if◌then◌else◌}
use Rattle.std.proofs.lemmas.Option.{none-some, same_Some}
use Rattle.std.proofs.lemmas.Bool.{eqb-true}
use Rattle.std.specs.Option.{option_map}
use Rattle.hpke.specs.Mask.{IsMaskKey}
use Rattle.hpke_acceptance.specs.private.KeyKem.{as_secret, key_decap, key_encap}

-- what is chosen by a test of its length has that length
chosen : (b : Bool) (key secret : List ℕ) → (b ≡ true → length key ≡ 32) → (if b then Some key else None) ≡ Some secret → length secret ≡ 32
chosen true key secret size is = ap length (sym (same_Some _ _ is)) ∙ size refl
chosen false key secret size is = absurd (none-some _ is)

as_secret-size : (key secret : List ℕ) → as_secret key ≡ Some secret → length secret ≡ 32
as_secret-size key secret is = chosen (nat_eq (length key) 32) key secret (eqb-true (length key) 32) is

pub key_decap-size : (sk : List ℕ) (sender : Option (List ℕ)) (enc secret : List ℕ) → IsMaskKey sk → IsMaskKey enc → key_decap sk sender enc ≡ Some secret → length secret ≡ 32
key_decap-size sk None enc secret s e is = ap length (sym (same_Some _ _ is)) ∙ s.0
key_decap-size sk (Some sender) enc secret s e is = as_secret-size sender secret is

-- a pair that was made of a secret of this length
mapped : (o : Option (List ℕ)) (draw secret enc : List ℕ) → ((key : List ℕ) → o ≡ Some key → length key ≡ 32)
    → option_map {U = List ℕ × List ℕ} (λ key. (key, draw)) o ≡ Some (secret, enc) → length secret ≡ 32
mapped None draw secret enc size is = absurd (none-some _ is)
mapped (Some key) draw secret enc size is =
    let pair : (key, draw) ≡ (secret, enc) = same_Some _ _ is in
    sym (ap (λ (p : List ℕ × List ℕ). length p.0) pair) ∙ size key refl

pub key_encap-size : (pk : List ℕ) (sender : Option (List ℕ × List ℕ)) (draw secret enc : List ℕ) → IsMaskKey pk → length draw ≡ 32 → key_encap pk sender draw ≡ Some (secret, enc) → length secret ≡ 32
key_encap-size pk None draw secret enc p d is =
    let pair : (pk, draw) ≡ (secret, enc) = same_Some _ _ is in
    sym (ap (λ (q : List ℕ × List ℕ). length q.0) pair) ∙ p.0
key_encap-size pk (Some sender) draw secret enc p d is = mapped (as_secret sender.0) draw secret enc (as_secret-size sender.0) is
