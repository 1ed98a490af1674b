-- An ordering that is selected by its place in a table.
use Rattle.std.proofs.Common.{◌≡◌, ℕ, ◌<◌, Bool, true, false, if◌then◌else◌, [], ◌∷◌, get_or, refl, lit<}
use Rattle.std.specs.Ordering.{ordering_index}
use Rattle.std.specs.declared.cmp.Ordering.{Ordering}
use Rattle.std.specs.declared.cmp.Ordering.TheVariants.{Less, Equal, Greater}

place-below : (order : Ordering) → ordering_index order < 3
place-below Less = lit< tt
place-below Equal = lit< tt
place-below Greater = lit< tt

at-place : (order : Ordering) → get_or (Less ∷ Equal ∷ Greater ∷ []) (ordering_index order) Less ≡ order
at-place Less = refl
at-place Equal = refl
at-place Greater = refl

-- the selected place lies in the table
pub selected_place-below : (choice : Bool) (a b : Ordering) (place : ℕ) → place ≡ (if choice then ordering_index b else ordering_index a) → place < 3
selected_place-below true a b place e = rw e (place-below b)
selected_place-below false a b place e = rw e (place-below a)

-- and the selected ordering stands there
pub at-selected_place : (choice : Bool) (a b : Ordering) (place : ℕ) → place ≡ (if choice then ordering_index b else ordering_index a)
    → get_or (Less ∷ Equal ∷ Greater ∷ []) place Less ≡ (if choice then b else a)
at-selected_place true a b place e = rw e (at-place b)
at-selected_place false a b place e = rw e (at-place a)
