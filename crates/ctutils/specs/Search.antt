-- What a search asks of its predicate.
use Rattle.std.specs.Prelude.{◌≡◌, Bool}
use Rattle.std.specs.Fn.{Shared, FnReturnsAt}
use Rattle.std.specs.Borrow.{Bor}

-- the predicate answers each item as this test does
abbrev pub Accepts : {P T : Type 0} → Shared P (Bor T × Unit {0}) Bool → P → (T → Bool) → Type 0
Accepts {P} {T} calls predicate accepts = (x : T) (answer : Bool) → FnReturnsAt calls predicate x answer → answer ≡ accepts x
