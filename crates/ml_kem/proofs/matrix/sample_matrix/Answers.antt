use Rattle.std.proofs.Common.{◌≡◌, ◌∷◌, [], All, Some, List, ℕ, map, sym, length, ap, ◌∙◌, arith}
use Rattle.std.proofs.lemmas.List.{length-map, map-append}
use Rattle.std.proofs.lemmas.List.Elements.{All-push, All-same}
use Rattle.module_lattice.specs.Ring.{IsPolynomial}
use Rattle.lattice_transform.specs.Transform.{inverse_transform}
use Rattle.ml_kem.specs.Matrix.{matrix, row}
use Rattle.std.proofs.lemmas.Result.{err_from_is_err_and}
use Rattle.ml_kem.proofs.Meanings.{refused}
use Rattle.ml_kem.proofs.Building.{collected-all, collected-more, collected-none, length-collected}
use Rattle.ml_kem.proofs.matrix.sample_matrix.Goals as goal

pub returns-in_err-row-clause-value : goal.returns-in_err-row-clause-value
unfolding matrix
returns-in_err-row-clause-value g c =
    let p = err_from_is_err_and c.from_residual.result c.from_residual.ensures.1 in
    let each = row g.H.KemHash.family c.args.k c.args.rho.now in
    rw (p.1, p.2) (refused (λ (items : List (List ℕ)). map inverse_transform items) (λ (a : List (List (List ℕ))). map (map inverse_transform) a) c.in_err-row.field-0.0
    (each c.loop-i.i) (matrix g.H.KemHash.family c.args.k c.args.rho.now) c.in_err-row.ensures.value (collected-none each c.loop-i.i c.args.k (omega arith)))

pub loop-i-preserved : goal.loop-i-preserved
loop-i-preserved g c =
    let rows : List (List (List ℕ)) = c.loop-i.rows.items in
    let next : List (List ℕ) = c.in_ok-row.row in
    record {
      made = collected-more (row g.H.KemHash.family c.args.k c.args.rho.now) c.loop-i.i (map (map inverse_transform) rows) (map inverse_transform next)
          c.in_ok-row.ensures.value c.loop-i.invariant.made
          ∙ ap Some (sym (ap (map (map inverse_transform)) c.in_ok-push.ensures.items ∙ map-append (map inverse_transform) rows (next ∷ [])));
      rows = rw c.in_ok-push.ensures.items (All-push (λ (items : List (List ℕ)). length items ≡ c.args.k) rows next c.loop-i.invariant.rows c.in_ok-row.ensures.long);
      polynomials = rw c.in_ok-push.ensures.items (All-push (All (IsPolynomial 3329)) rows next c.loop-i.invariant.polynomials c.in_ok-row.ensures.polynomials);
    }

pub returns-clause-value : goal.returns-clause-value
unfolding matrix
returns-clause-value g c =
    collected-all (row g.H.KemHash.family c.args.k c.args.rho.now) c.loop-i.i c.args.k (map (map inverse_transform) c.loop-i.rows.items) (omega arith) c.loop-i.invariant.made
    ∙ ap (λ (a : List (List (List ℕ))). Some (map (map inverse_transform) a)) (sym c.new.ensures)

pub returns-clause-is : goal.returns-clause-is
returns-clause-is g c = record {
  made = returns-clause-value g c;
  count = ap length c.new.ensures ∙ sym (length-map c.loop-i.rows.items (map inverse_transform))
      ∙ length-collected (row g.H.KemHash.family c.args.k c.args.rho.now) c.loop-i.i (map (map inverse_transform) c.loop-i.rows.items) c.loop-i.invariant.made ∙ omega arith;
  rows = All-same (λ (items : List (List ℕ)). length items ≡ c.args.k) _ _ c.new.ensures c.loop-i.invariant.rows;
  polynomials = All-same (All (IsPolynomial 3329)) _ _ c.new.ensures c.loop-i.invariant.polynomials;
}
