-- Which stanzas are a `done`.
use Rattle.std.proofs.Common.{◌≡◌, ◌≢◌, ℕ, true, false, List, [], ◌∷◌, ◌++◌}
use Rattle.std.specs.Prelude.{codes}
use Rattle.std.specs.Str.{bytes_eq}
use Rattle.std.proofs.lemmas.Slice.Eq.{bytes_eq-Decides}
use Rattle.age_format.specs.Stanza.{Stanza}
use Rattle.age_format.specs.Reading.{NoneDone}

-- a stanza that is no `done`
pub none_done-push : (ss : List Stanza) (s : Stanza) → NoneDone ss → s.tag ≢ codes "done" → NoneDone (ss ++ s ∷ [])
none_done-push [] s h n = (n, tt)
none_done-push (x ∷ xs) s h n = (h.0, none_done-push xs s h.1 n)

pub not_done : (tag : List ℕ) → bytes_eq tag (codes "done") ≡ false → tag ≢ codes "done"
not_done tag f e = let t = (bytes_eq-Decides tag (codes "done")).1 e in absurd cc

pub is_done : (tag : List ℕ) → bytes_eq tag (codes "done") ≡ true → tag ≡ codes "done"
is_done tag t = (bytes_eq-Decides tag (codes "done")).0 t
