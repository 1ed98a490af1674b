-- What a mail comes to for the lattice key of a seed.
use Rattle.std.proofs.Common.{◌≡◌, ◌≢◌, ◌⊎◌, ℕ, List, [], ◌++◌, length, Option, Some, None, Err, refl, sym, ap, subst, ◌∙◌, arith}
use Rattle.std.specs.Prelude.{IfSome}
use Rattle.std.specs.List.{flat_map}
use Rattle.std.specs.Option.{option_map}
use Rattle.std.proofs.lemmas.List.{length-append}
use Rattle.kem_hash.specs.Family.{Family}
use Rattle.ml_kem.specs.Parameters.{Parameters}
use Rattle.ml_kem.specs.Keys.{Key, key_of}
use Rattle.ml_kem.specs.Expanded.{SecretKey, key_of_seed}
use Rattle.ml_kem.specs.declared.error.KemError.{KemError}
use Rattle.ml_kem.specs.declared.error.KemError.TheVariants.{NoMemory as KemNoMemory, XofExhausted as KemXofExhausted}
use Rattle.age_format.specs.Stanza.{spelling}
use Rattle.hpke.specs.Schedule.{KdfAlgorithm, AeadAlgorithm, suite_of}
use Rattle.hpke.specs.Lattice.{lattice_kem_id, lattice_decap}
use Rattle.kem_mail.specs.Mail.{IsVerdict, OpenMeaning, Opens, OpensByKey, Verdict, opener_of, SameBodies, lattice_opener}
use Rattle.kem_mail.specs.Taken.{IsTaken, IsShortBehindDone, Lost}
use Rattle.kem_mail.specs.Causes.{of_kem}
use Rattle.kem_mail.specs.declared.error.MailError.TheVariants.{NoMemory, XofExhausted}
use Rattle.kem_mail.proofs.Verdicts.{opens_verdict, same_bodies_verdict, same_verdict, some_verdict}

-- ---- without a key nothing is taken

nothing_behind : IsShortBehindDone []
nothing_behind stanzas last behind is each none stanza done =
    let len : 0 ≡ length (flat_map spelling stanzas ++ (spelling last ++ behind)) = ap length is in
    omega (arith, len, length-append (flat_map spelling stanzas) (spelling last ++ behind), length-append (spelling last) behind)

nothing_taken : (budget : ℕ) (e : KemError) → IsTaken budget (Err (of_kem e)) []
nothing_taken budget KemNoMemory = record { within = omega arith; behind = nothing_behind; stopped = tt }
nothing_taken budget KemXofExhausted = record { within = omega arith; behind = nothing_behind; stopped = refl }

pub lost_nothing : (left : Option (List ℕ)) (budget : ℕ) (e : KemError) → Lost left left (IsTaken budget (Err (of_kem e)))
lost_nothing None budget e = tt
lost_nothing (Some text) budget e = ([], text, refl, refl, nothing_taken budget e)

-- ---- with a key

-- the seed gives a key
pub seed_key : (set : Parameters) (family : Family) (seed : List ℕ) (key : SecretKey) → option_map (key_of_seed seed) (key_of set family seed) ≡ Some key → key_of set family seed ≢ None
seed_key set family seed key is e = let none : None ≡ Some key = ap (option_map (key_of_seed seed)) (sym e) ∙ is in cc

seed_of : (seed : List ℕ) (made : Option Key) (key : SecretKey) → option_map (key_of_seed seed) made ≡ Some key → key.seed ≡ Some seed
seed_of seed None key is = absurd cc
seed_of seed (Some k) key is = let same : key_of_seed seed k ≡ key = cc in ap (λ (s : SecretKey). s.seed) (sym same)

-- the private key of it is the seed
same_seed : (set : Parameters) (family : Family) (seed sk : List ℕ) (key : SecretKey) → option_map (key_of_seed seed) (key_of set family seed) ≡ Some key → key.seed ≡ Some sk → sk ≡ seed
same_seed set family seed sk key is e = let both : Some sk ≡ Some seed = sym e ∙ seed_of seed (key_of set family seed) key is in cc

module _ (set : Parameters) (family : Family) (kdf : KdfAlgorithm) (aead : AeadAlgorithm) (meaning : OpenMeaning) (seed sk info : List ℕ) (size budget : ℕ) (key : SecretKey)
    (is : option_map (key_of_seed seed) (key_of set family seed) ≡ Some key) (sk_is : key.seed ≡ Some sk) (size_is : set.ct_size ≡ size) where
  -- a mail by the KEM of the key
  abbrev pub OpensByKem : List ℕ → Verdict → Type 0
  OpensByKem text v = Opens (opener_of (suite_of (lattice_kem_id set) kdf aead) info size (lattice_decap set family sk None) meaning) text budget v

  same_opener : (text : List ℕ) (v : Verdict)
      → Opens (opener_of (suite_of (lattice_kem_id set) kdf aead) info set.ct_size (lattice_decap set family seed None) meaning) text budget v ≡ OpensByKem text v
  same_opener text v = rw (size_is, same_seed set family seed sk key is sk_is) refl

  by_key : (text : List ℕ) (v : Verdict) → OpensByKem text v → OpensByKey set family kdf aead meaning seed info text budget v
  by_key text v opens = record {
    without_key = λ none. absurd (seed_key set family seed key is none);
    with_key = λ made e. subst (λ (T : Type 0). T) (sym (same_opener text v)) opens;
  }

  by_kem : (text : List ℕ) (v : Verdict) → OpensByKey set family kdf aead meaning seed info text budget v → OpensByKem text v
  by_kem text v opens = there (key_of set family seed) refl
    where
      there : (made : Option Key) → key_of set family seed ≡ made → OpensByKem text v
      there None e = absurd (seed_key set family seed key is e)
      there (Some made) e = subst (λ (T : Type 0). T) (same_opener text v) (opens.with_key made e)

  pub told_by_key : (left : Option (List ℕ)) (result : Verdict) → IfSome left (λ text. IsVerdict result → OpensByKem text result) → IfSome left (λ text. IsVerdict result → OpensByKey set family kdf aead meaning seed info text budget result)
  told_by_key None result h = tt
  told_by_key (Some text) result h = λ v. by_key text result (h v)

  pub complete_by_key : (left : Option (List ℕ)) (result : Verdict) (rose : Type 0)
      → IfSome left (λ text. (verdict : Verdict) → OpensByKem text verdict → (rose → ⊥) → (result ≡ verdict) ⊎ (result ≡ Err NoMemory))
      → IfSome left (λ text. (verdict : Verdict) → OpensByKey set family kdf aead meaning seed info text budget verdict → (rose → ⊥) → (result ≡ verdict) ⊎ (result ≡ Err NoMemory))
  complete_by_key None result rose h = tt
  complete_by_key (Some text) result rose h = λ verdict opens none. h verdict (by_kem text verdict opens) none

-- ---- the verdict of a key

-- a mail has one verdict for a lattice key
pub same_by_key : (set : Parameters) (family : Family) (kdf : KdfAlgorithm) (aead : AeadAlgorithm) (meaning : OpenMeaning) (seed info text : List ℕ) (budget : ℕ) (v w : Verdict)
    → OpensByKey set family kdf aead meaning seed info text budget v → OpensByKey set family kdf aead meaning seed info text budget w → v ≡ w
same_by_key set family kdf aead meaning seed info text budget v w one other = by (key_of set family seed) refl
  where
    by : (key : Option Key) → key_of set family seed ≡ key → v ≡ w
    by None e = one.without_key e ∙ sym (other.without_key e)
    by (Some key) e = same_verdict (lattice_opener set family kdf aead meaning seed info) text budget v w (one.with_key key e) (other.with_key key e)

-- no mail is without one
pub some_by_key : (set : Parameters) (family : Family) (kdf : KdfAlgorithm) (aead : AeadAlgorithm) (meaning : OpenMeaning) (seed info text : List ℕ) (budget : ℕ)
    → ((v : Verdict) → OpensByKey set family kdf aead meaning seed info text budget v → ⊥) → ⊥
some_by_key set family kdf aead meaning seed info text budget none = by (key_of set family seed) refl
  where
    by : (key : Option Key) → key_of set family seed ≡ key → ⊥
    by None e = none (Err XofExhausted) (record { without_key = λ _. refl; with_key = λ key f. absurd (let g = sym e ∙ f in cc) })
    by (Some key) e = some_verdict (lattice_opener set family kdf aead meaning seed info) text budget (λ v opens. none v (record {
      without_key = λ f. absurd (let g = sym e ∙ f in cc);
      with_key = λ other f. let g : Some key ≡ Some other = sym e ∙ f in opens;
    }))

-- what a lattice key comes to is a verdict
pub by_key_verdict : (set : Parameters) (family : Family) (kdf : KdfAlgorithm) (aead : AeadAlgorithm) (meaning : OpenMeaning) (seed info text : List ℕ) (budget : ℕ) (v : Verdict)
    → OpensByKey set family kdf aead meaning seed info text budget v → IsVerdict v
by_key_verdict set family kdf aead meaning seed info text budget v opens = by (key_of set family seed) refl
  where
    by : (key : Option Key) → key_of set family seed ≡ key → IsVerdict v
    by None e = let same = opens.without_key e in ((λ f. let g = sym same ∙ f in cc g), (λ f. let g = sym same ∙ f in cc g))
    by (Some key) e = opens_verdict (lattice_opener set family kdf aead meaning seed info) text budget v (opens.with_key key e)

-- two mails with the same bodies come to the same
pub same_bodies_by_key : (set : Parameters) (family : Family) (kdf : KdfAlgorithm) (aead : AeadAlgorithm) (meaning : OpenMeaning) (seed info text other : List ℕ) (budget limit : ℕ) (v : Verdict)
    → SameBodies text budget other limit → OpensByKey set family kdf aead meaning seed info text budget v → OpensByKey set family kdf aead meaning seed info other limit v
same_bodies_by_key set family kdf aead meaning seed info text other budget limit v same opens = record {
  without_key = opens.without_key;
  with_key = λ key e. same_bodies_verdict (lattice_opener set family kdf aead meaning seed info) text other budget limit v same (opens.with_key key e);
}
