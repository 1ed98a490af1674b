-- What a recipient's single shot opens: a text shorter than a tag opens to none.
use Rattle.std.proofs.Common.{◌≡◌, ℕ, ◌+◌, ◌<◌, ◌≤◌, ◌↔◌, List, length, Option, Some, None, refl, arith, inl, inr}
use Rattle.std.specs.Prelude.{Result, Err}
use Rattle.std.proofs.lemmas.Bool.{cases_lt}
use Rattle.hpke.specs.declared.error.HpkeError.{HpkeError}
use Rattle.hpke.specs.declared.error.HpkeError.TheVariants.{DecapError, OpenError}
use Rattle.hpke.specs.Messages.{NumberedAnswers}
use Rattle.hpke.specs.Nonce.{nonce_of}
use Rattle.hpke.specs.Schedule.{Context}
use Rattle.hpke.specs.SingleShot.{SingleShotAnswers, opened_once}

-- what is never some is none
never_some : {X : Type 0} (o : Option X) → ((x : X) → o ≡ Some x → ⊥) → o ≡ None
never_some None never = refl
never_some (Some x) never = absurd (never x refl)

-- a text shorter than a tag opens to none, by the laws of an AEAD
pub open_of-short : (seal_of open_of : List ℕ → List ℕ → List ℕ → List ℕ → Option (List ℕ)) (tag : ℕ) (key nonce aad sealed : List ℕ)
    → ((key nonce aad text sealed : List ℕ) → (open_of key nonce aad sealed ≡ Some text) ↔ (seal_of key nonce aad text ≡ Some sealed))
    → ((key nonce aad text sealed : List ℕ) → seal_of key nonce aad text ≡ Some sealed → length sealed ≡ length text + tag)
    → length sealed < tag → open_of key nonce aad sealed ≡ None
open_of-short seal_of open_of tag key nonce aad sealed opens size short =
    never_some (open_of key nonce aad sealed)
    (λ text is. let long = size key nonce aad text sealed ((opens key nonce aad text sealed).0 is) in omega (arith, long, short))

-- the answer of a single shot, over the setup that it made and the answer of `open` at number 0
pub SingleShotAnswers-open : {X : Type 0} (view : X → List ℕ) (result : Result X HpkeError)
    (open_of : List ℕ → List ℕ → List ℕ → List ℕ → Option (List ℕ)) (context : Context) (aad sealed : List ℕ) (tag : ℕ) (setup : Option Context)
    → setup ≡ Some context → context.next ≡ Some 0
    → (length sealed < tag → result ≡ Err OpenError)
    → (tag ≤ length sealed → NumberedAnswers view OpenError result context.next (λ number. open_of context.key (nonce_of context.base_nonce number) aad sealed))
    → (length sealed < tag → open_of context.key (nonce_of context.base_nonce 0) aad sealed ≡ None)
    → SingleShotAnswers view DecapError OpenError result setup (opened_once open_of aad sealed)
SingleShotAnswers-open view result open_of context aad sealed tag setup is next short value none =
    elim (cases_lt (length sealed) tag) [ inl lt ↦ rw (is, next, short lt, none lt) refl | inr le ↦ rw (is, next) (rw next at (value le)) ]
