-- A mail whose noise is inside opens to what was sealed.
use Rattle.std.proofs.Common.{◌≡◌, ◌≢◌, ◌↔◌, ◌≤◌, ◌+◌, ◌*◌, ◌++◌, ℕ, List, All, Option, None, Some, Ok, length, length-append, take, refl, ap, ap₂, sym, subst, ◌∙◌, inl, inr}
use Rattle.std.specs.Prelude.{IfSome}
use Rattle.std.specs.List.{flat_map}
use Rattle.std.specs.Option.{option_map}
use Rattle.std.proofs.lemmas.List.Elements.{All-weaker}
use Rattle.std.proofs.lemmas.Option.{none-some, same_Some}
use Rattle.kem_hash.specs.Family.{AreBytes, Family}
use Rattle.module_lattice.specs.Ring.{IsPolynomial}
use Rattle.ml_kem.specs.Encapsulation.{decaps, encaps, key_and_coins}
use Rattle.ml_kem.specs.Encryption.{compressed}
use Rattle.ml_kem.specs.Keys.{Key, key_of}
use Rattle.ml_kem.specs.Parameters.{IsSet, Parameters}
use Rattle.decryption_noise.specs.Noise.{AllInside, honest_coins, noise_of, randomness, unrounded_u, unrounded_v}
use Rattle.decryption_noise.proofs.Changes.{length-compressed}
use Rattle.decryption_noise.proofs.Identity.{IsPolynomial-v, IsVector-u, cipher}
use Rattle.decryption_noise.proofs.Parts.{length-pieces}
use Rattle.decryption_noise.proofs.Results.{ciphertext-of, inside-of}
use Rattle.hpke.specs.Lattice.{lattice_decap, lattice_encap}
use Rattle.hpke.specs.Schedule.{AeadAlgorithm, Context, KdfAlgorithm, Mode, Suite, receiver_setup, schedule, sender_setup}
use Rattle.kem_mail.specs.Mail.{OpenMeaning, OpensByKey}
use Rattle.kem_mail.specs.Sealing.{SealMeaning, lattice_sealer}
use Rattle.kem_mail.specs.SenderText.{SenderText}
use Rattle.kem_mail.proofs.SenderTexts.{sender_text_opens_by_key}

-- each polynomial takes 32 bytes for each of its d bits
compressed_each : (d : ℕ) (u : List (List ℕ)) → All (IsPolynomial 3329) u → All (λ f. length (compressed d f) ≡ 32 * d) u
compressed_each d u each = All-weaker (IsPolynomial 3329) (λ f. length (compressed d f) ≡ 32 * d) (λ f is. length-compressed d f is.size) u each

-- the bytes of u and v
sizes : (set : Parameters) → IsSet set → 32 * set.du * set.k + 32 * set.dv ≡ set.ct_size
sizes set is = elim is [
  | inl e ↦ ap (λ (s : Parameters). 32 * s.du * s.k + 32 * s.dv) e ∙ sym (ap (λ (s : Parameters). s.ct_size) e)
  | inr rest ↦ elim rest [
    | inl e ↦ ap (λ (s : Parameters). 32 * s.du * s.k + 32 * s.dv) e ∙ sym (ap (λ (s : Parameters). s.ct_size) e)
    | inr e ↦ ap (λ (s : Parameters). 32 * s.du * s.k + 32 * s.dv) e ∙ sym (ap (λ (s : Parameters). s.ct_size) e)
  ]
]

-- a ciphertext has its length
cipher_size : (set : Parameters) (family : Family) (key : Key) (m r : List ℕ) → IsSet set → length m ≡ 32 → length (cipher set family key m r) ≡ set.ct_size
cipher_size set family key m r is long =
    let u : List (List ℕ) = unrounded_u set key (randomness set family r) in
    let v : List ℕ = unrounded_v key (randomness set family r) m in
    let vector = IsVector-u set family key r in
    length-append (flat_map (compressed set.du) u) (compressed set.dv v)
    ∙ (ap₂ (λ (a b : ℕ). a + b)
    (length-pieces (32 * set.du) (compressed set.du) u (compressed_each set.du u vector.each) ∙ ap (λ (n : ℕ). 32 * set.du * n) vector.count)
    (length-compressed set.dv v (IsPolynomial-v set family key m r long).size)
    ∙ sizes set is)

-- what an honest encapsulation makes
honest_encaps : (set : Parameters) (family : Family) (seed m : List ℕ) (key : Key) → key_of set family seed ≡ Some key
    → encaps set family key.ek m ≡ Some (cipher set family key m (honest_coins family key.ek m), take 32 (key_and_coins family key.ek m))
unfolding encaps
honest_encaps set family seed m key there =
    ap (option_map {U = List ℕ × List ℕ} (λ (c : List ℕ). (c, take 32 (key_and_coins family key.ek m)))) (ciphertext-of set family seed m (honest_coins family key.ek m) key there)

-- a mail of a sender whose noise is inside
pub honest_opens : (set : Parameters) (family : Family) (kdf : KdfAlgorithm) (aead : AeadAlgorithm) (seal_of : SealMeaning) (open_of : OpenMeaning)
    → ((key nonce aad text body : List ℕ) → (open_of key nonce aad body ≡ Some text) ↔ (seal_of key nonce aad text ≡ Some body))
    → (seed info : List ℕ) (key : Key) (messages : List (List ℕ)) (m text rest : List ℕ) (budget : ℕ) → IsSet set → key_of set family seed ≡ Some key → AreBytes 32 m
    → AllInside m (noise_of set family key m (honest_coins family key.ek m))
    → SenderText (lattice_sealer set family kdf aead seal_of key.ek info) messages m text → length text ≤ budget
    → OpensByKey set family kdf aead open_of seed info (text ++ rest) budget (Ok messages)
honest_opens set family kdf aead seal_of open_of law seed info key messages m text rest budget is there bytes inside sent fits =
    let r : List ℕ = honest_coins family key.ek m in
    let c : List ℕ = cipher set family key m r in
    let shared : List ℕ = take 32 (key_and_coins family key.ek m) in
    let made : encaps set family key.ek m ≡ Some (c, shared) = honest_encaps set family seed m key there in
    sender_text_opens_by_key set family kdf aead seal_of open_of law seed info key messages m c shared text rest budget there made
    (inside-of set family seed m c shared key is there bytes made inside) (cipher_size set family key m r is bytes.size) sent fits

-- ---- both sides of a setup

-- a pair, turned
turned : (o : Option (List ℕ × List ℕ)) (a b : List ℕ) → option_map {U = List ℕ × List ℕ} (λ (made : List ℕ × List ℕ). (made.1, made.0)) o ≡ Some (a, b) → o ≡ Some (b, a)
turned None a b e = absurd (none-some _ e)
turned (Some made) a b e =
    let same : (made.1, made.0) ≡ (a, b) = same_Some _ _ e in
    ap Some (ap (λ (p : List ℕ × List ℕ). (p.1, p.0)) same)

-- the secret that decapsulation finds without a sender's identity
found_secret : (set : Parameters) (family : Family) (seed enc shared : List ℕ) (key : Key) → key_of set family seed ≡ Some key
    → decaps set family key.s key.ek key.z enc ≡ Some shared → lattice_decap set family seed None enc ≡ Some shared
found_secret set family seed enc shared key there e = rw there e

-- the secret that was encapsulated is found
pub honest_secret : (set : Parameters) (family : Family) (seed m : List ℕ) (key : Key) → IsSet set → key_of set family seed ≡ Some key → AreBytes 32 m
    → AllInside m (noise_of set family key m (honest_coins family key.ek m))
    → (identity : Option (List ℕ × List ℕ)) (sender : Option (List ℕ)) → (identity ≡ None → sender ≡ None)
    → (shared enc : List ℕ) → lattice_encap set family key.ek identity m ≡ Some (shared, enc) → lattice_decap set family seed sender enc ≡ Some shared
honest_secret set family seed m key is there bytes inside (Some identity) sender alike shared enc made = absurd (none-some _ made)
honest_secret set family seed m key is there bytes inside None sender alike shared enc made =
    let encapsulated : encaps set family key.ek m ≡ Some (enc, shared) = turned (encaps set family key.ek m) shared enc made in
    subst (λ (o : Option (List ℕ)). lattice_decap set family seed o enc ≡ Some shared) (sym (alike refl))
    (found_secret set family seed enc shared key there (inside-of set family seed m enc shared key is there bytes encapsulated inside))

-- where the secret is found, so is the context
same_setup : (suite : Suite) (mode : Mode) (info enc : List ℕ) (context : Context) (made : Option (List ℕ × List ℕ)) (found : List ℕ → Option (List ℕ))
    → ((shared enc : List ℕ) → made ≡ Some (shared, enc) → found enc ≡ Some shared)
    → sender_setup suite mode info made ≡ Some (enc, context) → receiver_setup suite mode info (found enc) ≡ Some context
same_setup suite mode info enc context None found finds e = absurd (none-some _ e)
same_setup suite mode info enc context (Some made) found finds e =
    let pair : (made.1, schedule suite mode.number made.0 info mode.psk mode.psk_id) ≡ (enc, context) = same_Some _ _ e in
    let same : made.1 ≡ enc = ap (λ (p : List ℕ × Context). p.0) pair in
    let secret : found enc ≡ Some made.0 = subst (λ (t : List ℕ). found t ≡ Some made.0) same (finds made.0 made.1 refl) in
    ap (receiver_setup suite mode info) secret ∙ ap Some (ap (λ (p : List ℕ × Context). p.1) pair)

-- the context of both sides
pub honest_context : (set : Parameters) (family : Family) (seed m : List ℕ) (key : Key) → IsSet set → key_of set family seed ≡ Some key → AreBytes 32 m
    → AllInside m (noise_of set family key m (honest_coins family key.ek m))
    → (identity : Option (List ℕ × List ℕ)) (sender : Option (List ℕ)) → (identity ≡ None → sender ≡ None)
    → (suite : Suite) (mode : Mode) (info enc : List ℕ) (context : Context)
    → sender_setup suite mode info (lattice_encap set family key.ek identity m) ≡ Some (enc, context)
    → receiver_setup suite mode info (lattice_decap set family seed sender enc) ≡ Some context
honest_context set family seed m key is there bytes inside identity sender alike suite mode info enc context =
    same_setup suite mode info enc context (lattice_encap set family key.ek identity m) (λ (t : List ℕ). lattice_decap set family seed sender t)
    (honest_secret set family seed m key is there bytes inside identity sender alike)

-- the sender has a context
pub setup_there : (set : Parameters) (family : Family) (seed m : List ℕ) (key : Key) → key_of set family seed ≡ Some key
    → (suite : Suite) (mode : Mode) (info : List ℕ) → sender_setup suite mode info (lattice_encap set family key.ek None m) ≢ None
setup_there set family seed m key there suite mode info none =
    let made = honest_encaps set family seed m key there in
    absurd (none-some _ (sym none ∙ ap (λ (o : Option (List ℕ × List ℕ)). sender_setup suite mode info (option_map {U = List ℕ × List ℕ} (λ (c : List ℕ × List ℕ). (c.1, c.0)) o)) made))

-- what holds of a told text
pub told_at : (P : List ℕ → Type 0) (left : Option (List ℕ)) (text : List ℕ) → left ≡ Some text → IfSome left P → P text
told_at P None text is holds = absurd cc
told_at P (Some found) text is holds = let same : found ≡ text = cc in subst P same holds
