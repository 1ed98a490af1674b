use Rattle.std.proofs.Common.{ℕ, ◌<◌, get_or, sym, subst, arith}
use Rattle.std.specs.Prelude.{◌==◌, if◌then◌else◌}
use Rattle.std.proofs.lemmas.Bool.Decides.{nat_tests}
use Rattle.std.proofs.lemmas.List.FromFn.{get_or-map-range_with_len}
use Rattle.module_lattice.specs.Ring.{power_of_x}
use Rattle.ring_acceptance.proofs.transform.x.Goals as goal

coefficient-small : (k : ℕ) → (if k == 1 then 1 else 0) < 3329
coefficient-small k = grind (arith, nat_tests)

small : (k d : ℕ) → k < 256 → get_or (power_of_x 1) k d < 3329
small k d inside =
    subst (λ n. n < 3329) (sym (get_or-map-range_with_len (λ i. if i == 1 then 1 else 0) 0 256 k k d inside (omega arith))) (coefficient-small k)

pub new-requires : goal.new-requires
new-requires g c = small
