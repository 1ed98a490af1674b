-- Refusals that are passed on.
use Rattle.std.proofs.Common.{◌≡◌, Result, Ok, Err}
use Rattle.std.specs.Prelude.{OnErr, IsErrAnd}

-- whatever a refusal is
pub on_err : {A E : Type 0} {P : Type 0} (r : Result A E) → P → OnErr r P
on_err (Ok x) p = tt
on_err (Err e) p = p

-- a refusal that is passed on
pub err_as : {A E : Type 0} (r : Result A E) (e f : E) → IsErrAnd r (λ x. x ≡ e) → e ≡ f → r ≡ Err f
err_as (Ok x) e f h same = absurd h
err_as (Err x) e f h same = cc

pub same_err : {A E : Type 0} (e f : E) → ◌≡◌ {A = Result A E} (Err e) (Err f) → e ≡ f
same_err e f h = cc
