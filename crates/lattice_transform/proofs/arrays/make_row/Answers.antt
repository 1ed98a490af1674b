use Rattle.std.proofs.Common.{◌∙◌, ap, ◌*◌, ◌/◌, ◌^◌, sym, arith, rules}
use Rattle.lattice_transform.proofs.RowLoop.{first-inside, next-in-row, place-inside, rows-same, second-inside}
use Rattle.lattice_transform.proofs.arrays.make_row.Goals as goal

pub row_zeta-turn-requires : goal.row_zeta-turn-requires
row_zeta-turn-requires c = place-inside c.args.half c.args.step c.args.row c.loop-column.column c.requires.rows c.requires.inside (search rules)

pub row_quotient-ratio-requires : goal.row_quotient-ratio-requires
row_quotient-ratio-requires c = place-inside c.args.half c.args.step c.args.row c.loop-column.column c.requires.rows c.requires.inside (search rules)

pub butterfly-requires : goal.butterfly-requires
butterfly-requires c = record {
  first = first-inside c.args.half c.args.step c.args.row c.loop-column.column c.requires.rows c.requires.inside (search rules);
  second = second-inside c.args.half c.args.step c.args.row c.loop-column.column c.requires.rows c.requires.inside (search rules);
  zeta = c.row_zeta-turn.ensures.below;
  quotient = c.row_quotient-ratio.ensures ∙ ap (λ n. n * 2 ^ 16 / 3329) (sym c.row_zeta-turn.ensures.value);
  polynomial = c.loop-column.invariant.polynomial;
}

pub loop-column-init : goal.loop-column-init
loop-column-init c = record {
  made = λ f before. rows-same c.args.half c.args.step _ _ f _ (omega arith) before;
  polynomial = c.requires.polynomial;
}

pub loop-column-preserved : goal.loop-column-preserved
loop-column-preserved c = record {
  made = λ f before. next-in-row c.args.half c.args.step c.args.row c.loop-column.column c.row_zeta-turn.result f _ _ (search rules) c.butterfly.ensures.value
      c.row_zeta-turn.ensures.value (c.loop-column.invariant.made f before);
  polynomial = c.butterfly.ensures.polynomial;
}

pub returns : goal.returns
returns c = record {
  value = λ f before. rows-same c.args.half c.args.step _ _ f _ (omega arith) (c.loop-column.invariant.made f before);
  polynomial = c.loop-column.invariant.polynomial;
}
