use Rattle.std.proofs.Common.{◌≡◌, ℕ, ◌*◌, ◌/◌, ap, sym, ◌∙◌, arith, length}
use Rattle.module_lattice.specs.Groups.{groups, ungroup}
use Rattle.module_lattice.proofs.Regrouping.{All-regroup, length-regroup}
use Rattle.module_lattice.proofs.Units.{whole-bytes, whole-numbers}
use Rattle.module_lattice.proofs.laws.packed_sizes.Goals as goal

pub returns-clause-groups : goal.returns-clause-groups
unfolding groups
returns-clause-groups c d values whole =
    let n : ℕ = d * length values / 8 in
    let all : d * length values ≡ 8 * n = whole-bytes d (length values) whole in
    ap (λ (k : ℕ). 8 * k) (length-regroup d 8 n values (omega arith) all) ∙ sym all

pub returns-clause-bytes : goal.returns-clause-bytes
unfolding groups
returns-clause-bytes c d values = All-regroup d 8 values

pub returns-clause-ungroup : goal.returns-clause-ungroup
unfolding ungroup
returns-clause-ungroup c d bytes positive whole =
    let n : ℕ = 8 * length bytes / d in
    let all : 8 * length bytes ≡ d * n = whole-numbers d (8 * length bytes) whole in
    ap (λ (k : ℕ). d * k) (length-regroup 8 d n bytes positive all) ∙ sym all

pub returns-clause-numbers : goal.returns-clause-numbers
unfolding ungroup
returns-clause-numbers c d bytes = All-regroup 8 d bytes
