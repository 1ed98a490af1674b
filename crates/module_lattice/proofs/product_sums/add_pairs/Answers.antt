use Rattle.std.proofs.Common.{◌+◌, ◌*◌, ℕ, List, get_or, slice_index, rules}
use Rattle.module_lattice.proofs.Sums.{grown_none, grown_more, all_grown, factors, linear_added}
use Rattle.module_lattice.proofs.product_sums.add_pairs.Goals as goal

pub loop-i-init : goal.loop-i-init
loop-i-init c = record {
  constants = grown_none (λ k. slice_index c.args.lhs.now (2 * k) * slice_index c.args.rhs.now (2 * k)) _ c.requires.constants;
  linears = grown_none (λ k. slice_index c.args.lhs.now (2 * k) * slice_index c.args.rhs.now (2 * k + 1) + slice_index c.args.lhs.now (2 * k + 1) * slice_index c.args.rhs.now (2 * k)) _ c.requires.linears;
  squares = grown_none (λ k. slice_index c.args.lhs.now (2 * k + 1) * slice_index c.args.rhs.now (2 * k + 1)) _ c.requires.squares;
}

pub loop-i-preserved : goal.loop-i-preserved
loop-i-preserved c =
    let f : List ℕ = c.args.lhs.now in
    let g : List ℕ = c.args.rhs.now in
    let i : ℕ = c.loop-i.i in
    record {
      constants = grown_more (λ k. slice_index f (2 * k) * slice_index g (2 * k)) _ i c.loop-i.constants c.plus_product-constant.result (search rules)
          (factors _ _ _ (slice_index f (2 * i)) (slice_index g (2 * i)) _ c.plus_product-constant.ensures.value c.coefficient-a0.ensures.value c.coefficient-b0.ensures.value)
          c.plus_product-constant.ensures.within c.loop-i.invariant.constants;
      linears = grown_more (λ k. slice_index f (2 * k) * slice_index g (2 * k + 1) + slice_index f (2 * k + 1) * slice_index g (2 * k)) _ i c.loop-i.linears c.plus_product-linear.result (search rules)
          (linear_added (get_or c.loop-i.linears i 0) (slice_index f (2 * i)) (slice_index g (2 * i + 1)) (slice_index f (2 * i + 1)) (slice_index g (2 * i)) c.plus_product-half.result c.plus_product-linear.result
          (factors _ _ _ (slice_index f (2 * i)) (slice_index g (2 * i + 1)) _ c.plus_product-half.ensures.value c.coefficient-a0.ensures.value c.coefficient-b1.ensures.value)
          (factors _ _ _ (slice_index f (2 * i + 1)) (slice_index g (2 * i)) _ c.plus_product-linear.ensures.value c.coefficient-a1.ensures.value c.coefficient-b0.ensures.value))
          c.plus_product-linear.ensures.within c.loop-i.invariant.linears;
      squares = grown_more (λ k. slice_index f (2 * k + 1) * slice_index g (2 * k + 1)) _ i c.loop-i.squares c.plus_product-square.result (search rules)
          (factors _ _ _ (slice_index f (2 * i + 1)) (slice_index g (2 * i + 1)) _ c.plus_product-square.ensures.value c.coefficient-a1.ensures.value c.coefficient-b1.ensures.value)
          c.plus_product-square.ensures.within c.loop-i.invariant.squares;
    }

pub returns-clause-value : goal.returns-clause-value
returns-clause-value c =
    all_grown c.args.lhs.now c.args.rhs.now c.args.constants.now c.args.linears.now c.args.squares.now
    c.loop-i.constants c.loop-i.linears c.loop-i.squares c.loop-i.i (search rules)
    c.loop-i.invariant.constants c.loop-i.invariant.linears c.loop-i.invariant.squares
