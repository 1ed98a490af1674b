-- What is decapsulated.
use Rattle.std.proofs.Common.{◌≡◌, ◌≢◌, ℕ, ◌++◌, Bool, true, false, List, Option, None, Some, take, drop, refl, ap, ◌∙◌}
use Rattle.std.specs.Option.{option_map}
use Rattle.std.specs.Prelude.{if◌then◌else◌}
use Rattle.std.specs.Str.{bytes_eq}
use Rattle.std.proofs.lemmas.Option.{none-some, same_Some}
use Rattle.std.proofs.lemmas.Slice.Eq.{bytes_eq-Decides}
use Rattle.kem_hash.specs.Family.{Family}
use Rattle.ml_kem.specs.Encapsulation.{chosen_key, decaps, encaps, key_and_coins}
use Rattle.ml_kem.specs.Encryption.{decrypt, encrypt}
use Rattle.ml_kem.specs.Parameters.{Parameters}

-- ---- the chosen key

chosen-same : (family : Family) (key z c : List ℕ) → chosen_key family key z c c ≡ key
chosen-same family key z c = ap (λ (b : Bool). if b then key else family.j_of (z ++ c)) ((bytes_eq-Decides c c).1 refl)

unequal : (b : Bool) → b ≢ true → b ≡ false
unequal true not = absurd (not refl)
unequal false not = refl

chosen-other : (family : Family) (key z c again : List ℕ) → again ≢ c → chosen_key family key z c again ≡ family.j_of (z ++ c)
chosen-other family key z c again other =
    ap (λ (b : Bool). if b then key else family.j_of (z ++ c)) (unequal (bytes_eq again c) (λ same. other ((bytes_eq-Decides again c).0 same)))

-- ---- what encapsulation made

paired : (shared : List ℕ) (o : Option (List ℕ)) (c key : List ℕ) → option_map (λ d. let pair : List ℕ × List ℕ = (d, shared) in pair) o ≡ Some (c, key) → (o ≡ Some c) × (shared ≡ key)
paired shared None c key made = absurd (none-some _ made)
paired shared (Some d) c key made =
    let same : (d, shared) ≡ (c, key) = same_Some _ _ made in
    (ap (λ (pair : List ℕ × List ℕ). Some pair.0) same, ap (λ (pair : List ℕ × List ℕ). pair.1) same)

pub encaps-parts : (set : Parameters) (family : Family) (ek m c key : List ℕ) → encaps set family ek m ≡ Some (c, key)
    → (encrypt set family ek m (drop 32 (key_and_coins family ek m)) ≡ Some c) × (take 32 (key_and_coins family ek m) ≡ key)
unfolding encaps
encaps-parts set family ek m c key made =
    let both : List ℕ = key_and_coins family ek m in
    paired (take 32 both) (encrypt set family ek m (drop 32 both)) c key made

-- ---- the two cases, by what is encrypted again

pub decaps-taken : (set : Parameters) (family : Family) (s : List (List ℕ)) (ek z c : List ℕ)
    → (let made = key_and_coins family ek (decrypt set s c) in encrypt set family ek (decrypt set s c) (drop 32 made)) ≡ Some c
    → decaps set family s ek z c ≡ Some (take 32 (key_and_coins family ek (decrypt set s c)))
unfolding decaps
decaps-taken set family s ek z c again =
    let key : List ℕ = take 32 (key_and_coins family ek (decrypt set s c)) in
    ap (option_map (chosen_key family key z c)) again ∙ ap Some (chosen-same family key z c)

pub decaps-rejected : (set : Parameters) (family : Family) (s : List (List ℕ)) (ek z c other : List ℕ)
    → (let made = key_and_coins family ek (decrypt set s c) in encrypt set family ek (decrypt set s c) (drop 32 made)) ≡ Some other
    → other ≢ c → decaps set family s ek z c ≡ Some (family.j_of (z ++ c))
unfolding decaps
decaps-rejected set family s ek z c other again unlike =
    let key : List ℕ = take 32 (key_and_coins family ek (decrypt set s c)) in
    ap (option_map (chosen_key family key z c)) again ∙ ap Some (chosen-other family key z c other unlike)

-- where the message is decrypted
pub decaps-right : (set : Parameters) (family : Family) (s : List (List ℕ)) (ek z m c key : List ℕ) → encaps set family ek m ≡ Some (c, key) → decrypt set s c ≡ m
    → decaps set family s ek z c ≡ Some key
decaps-right set family s ek z m c key made right =
    let parts = encaps-parts set family ek m c key made in
    decaps-taken set family s ek z c (ap (λ (x : List ℕ). encrypt set family ek x (drop 32 (key_and_coins family ek x))) right ∙ parts.0)
    ∙ ap Some (ap (λ (x : List ℕ). take 32 (key_and_coins family ek x)) right ∙ parts.1)
