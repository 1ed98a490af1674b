use Rattle.std.proofs.Common.{◌≡◌, ◌∙◌, ℕ, [], List, length, get_or, arith}
use Rattle.std.proofs.lemmas.List.{length-map}
use Rattle.ml_kem.specs.Matrix.{column}
use Rattle.ml_kem.proofs.Totals.{column-all, column-more}
use Rattle.ml_kem.proofs.matrix.column_dot.Goals as goal

pub loop-j-preserved : goal.loop-j-preserved
loop-j-preserved c =
    let size : length (column c.args.a.now c.args.i) ≡ length c.args.a.now = length-map c.args.a.now (λ (r : List (List ℕ)). get_or r c.args.i []) in
    column-more c.args.a.now c.args.v.now c.args.i c.loop-j.j _ _ _ c.loop-j.sums _ (omega arith) size c.requires.long
    c.item.ensures c.item-in-loop-j.ensures c.item-in-loop-j-2.ensures c.loop-j.invariant c.add_product.ensures

pub returns : goal.returns
returns c =
    let size : length (column c.args.a.now c.args.i) ≡ length c.args.a.now = length-map c.args.a.now (λ (r : List (List ℕ)). get_or r c.args.i []) in
    c.reduce.ensures ∙ column-all c.args.a.now c.args.v.now c.args.i c.loop-j.j c.loop-j.sums size c.requires.long (omega arith) c.loop-j.invariant
