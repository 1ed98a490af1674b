-- The step of a search that keeps what it found in an option.
use Rattle.std.proofs.Common.{◌≡◌, ℕ, ◌+◌, ◌<◌, Bool, true, false, not, ◌&&◌, if◌then◌else◌, List, [], ◌∷◌, ◌++◌, length, get_or, take, refl, sym, ap, ◌∙◌}
use Rattle.std.specs.Prelude.{Some, None, find}
use Rattle.std.specs.Bool.{OnFalse}
use Rattle.std.specs.Option.{option_or}
use Rattle.std.proofs.lemmas.List.{take_more}
use Rattle.std.proofs.lemmas.List.Folds.{find-append}
use Rattle.ctutils.specs.declared.ct_option.CtOption.{CtOption}
use Rattle.ctutils.specs.Options.{some_of, into_option}

-- a none hides what it hid before
pub OnFalse-step : {X : Type 0} (D : X → Type 0) (condition : Bool) (found next : CtOption X) (x : X) → OnFalse found.is_some (D found.value)
    → next ≡ (if condition then some_of x else found) → OnFalse next.is_some (D next.value)
OnFalse-step D true found next x h e = rw e tt
OnFalse-step D false found next x h e = rw e h

-- an item is inserted where none was found
into_option-inserted : {X : Type 0} (answer is_some : Bool) (value x : X)
    → into_option (if answer && not is_some then some_of x else record { value = value; is_some = is_some })
    ≡ option_or (if is_some then Some value else None) (if answer then Some x else None)
into_option-inserted true true value x = refl
into_option-inserted true false value x = refl
into_option-inserted false true value x = refl
into_option-inserted false false value x = refl

pub find-take-more : {X : Type 0} (accepts : X → Bool) (answer : Bool) (found next : CtOption X) (xs : List X) (i : ℕ) (x : X)
    → i < length xs → x ≡ get_or xs i x → into_option found ≡ find accepts (take i xs) → answer ≡ accepts x
    → next ≡ (if answer && not found.is_some then some_of x else found) → into_option next ≡ find accepts (take (i + 1) xs)
find-take-more accepts answer found next xs i x p q so_far here step =
    let more = take_more xs i x p in
    ap into_option step ∙ into_option-inserted answer found.is_some found.value x
    ∙ ap (λ o. option_or o (if answer then Some x else None)) so_far
    ∙ ap (λ b. option_or (find accepts (take i xs)) (if b then Some x else None)) here
    ∙ sym (find-append accepts (take i xs) (x ∷ []))
    ∙ ap (λ y. find accepts (take i xs ++ y ∷ [])) q ∙ ap (find accepts) (sym more)
