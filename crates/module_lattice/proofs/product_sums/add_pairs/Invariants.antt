use Rattle.std.proofs.Common.{◌+◌, ◌*◌, slice_index}
use Rattle.module_lattice.proofs.Sums.{Grown}
use Rattle.module_lattice.proofs.product_sums.add_pairs.Given as goal

abbrev pub invariant-loop-i : goal.invariant-loop-i
invariant-loop-i l = record {
  constants : Grown (λ k. slice_index l.lhs (2 * k) * slice_index l.rhs (2 * k)) l.fn.constants l.i l.constants;
  linears : Grown (λ k. slice_index l.lhs (2 * k) * slice_index l.rhs (2 * k + 1) + slice_index l.lhs (2 * k + 1) * slice_index l.rhs (2 * k)) l.fn.linears l.i l.linears;
  squares : Grown (λ k. slice_index l.lhs (2 * k + 1) * slice_index l.rhs (2 * k + 1)) l.fn.squares l.i l.squares;
}
