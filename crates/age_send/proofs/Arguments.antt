-- The arguments of a header line, one by one.
use Rattle.std.proofs.Common.{◌≡◌, ◌+◌, ◌<◌, ℕ, List, ◌∷◌, ◌++◌, map, length, take, drop, get_or, sym, ap, ◌∙◌}
use Rattle.std.specs.List.{flat_map}
use Rattle.std.proofs.lemmas.List.{drop_more, map-append, take-append-drop}
use Rattle.std.proofs.lemmas.List.Concat.{flat_map-append}

-- the text of arguments
abbrev pub args_text : List (List ℕ) → List ℕ
args_text args = flat_map (λ arg. 32 ∷ arg) args

-- an argument between others
pub args_between : (front : List (List ℕ)) (arg : List ℕ) (behind : List (List ℕ)) → args_text (front ++ arg ∷ behind) ≡ args_text front ++ ((32 ∷ arg) ++ args_text behind)
args_between front arg behind = flat_map-append (λ arg. 32 ∷ arg) front (arg ∷ behind)

-- the arguments, with the one at a place written out
pub args_split : {S : Type 0} (text : S → List ℕ) (args : List S) (i : ℕ) (arg : S) → i < length args → arg ≡ get_or args i arg → args_text (map text args) ≡ args_text (map text (take i args)) ++ ((32 ∷ text arg) ++ args_text (map text (drop (i + 1) args)))
args_split text args i arg inside is =
    ap (λ (xs : List _). args_text (map text xs)) (sym (take-append-drop i args) ∙ ap (λ (xs : List _). take i args ++ xs) (drop_more args i arg inside ∙ ap (λ (x : _). x ∷ drop (i + 1) args) (sym is)))
    ∙ (ap args_text (map-append text (take i args) (arg ∷ drop (i + 1) args)) ∙ args_between (map text (take i args)) (text arg) (map text (drop (i + 1) args)))
