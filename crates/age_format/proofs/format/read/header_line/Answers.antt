use Rattle.std.proofs.Common.{◌≡◌, ℕ, List, Option, Some, None, sym, ◌∙◌, IfOk, IfSome, IfNone, option_map}
use Rattle.std.specs.Prelude.{Result, Ok, Err}
use Rattle.std.proofs.lemmas.Option.{none-some}
use Rattle.age_format.specs.Stanza.{Stanza}
use Rattle.age_format.specs.Strings.{BeginsWithHeader}
use Rattle.age_format.specs.private.Parse.{header_read}
use Rattle.age_format.proofs.Stanzas.{header_sound, header_complete}
use Rattle.age_format.proofs.format.read.header_line.Goals as goal

module _ {A E : Type 0} (s : A → Stanza) (t : A → List ℕ) (text : List ℕ) where
  read_of : (r : Result (Option A) E) → IfOk r (λ found. option_map (λ x. (s x, t x)) found ≡ header_read text)
      → IfOk r (λ found. IfSome found (λ x. BeginsWithHeader text (s x) (t x)))
  read_of (Err e) h = tt
  read_of (Ok None) h = tt
  read_of (Ok (Some x)) h = header_sound text (s x) (t x) (sym h)

  none_of : (r : Result (Option A) E) → IfOk r (λ found. option_map (λ x. (s x, t x)) found ≡ header_read text)
      → IfOk r (λ found. IfNone found ((header : Stanza) (behind : List ℕ) → BeginsWithHeader text header behind → ⊥))
  none_of (Err e) h = tt
  none_of (Ok None) h = λ header behind begins. none-some _ (h ∙ header_complete text header behind begins)
  none_of (Ok (Some x)) h = tt

pub returns-clause-read : goal.returns-clause-read
returns-clause-read c = read_of (λ x. x.0) (λ x. x.1.now) c.args.input.now c.header_at.result c.header_at.ensures

pub returns-clause-none : goal.returns-clause-none
returns-clause-none c = none_of (λ x. x.0) (λ x. x.1.now) c.args.input.now c.header_at.result c.header_at.ensures
