use Rattle.std.proofs.Common.{◌∷◌, [], List, ℕ, Some, sym, map, length, ap, ◌∙◌, arith}
use Rattle.std.specs.Option.{option_map}
use Rattle.std.proofs.lemmas.List.{length-map, map-append}
use Rattle.std.proofs.lemmas.List.Elements.{All-push}
use Rattle.module_lattice.specs.Ring.{IsPolynomial}
use Rattle.lattice_transform.specs.Transform.{inverse_transform}
use Rattle.ml_kem.specs.Matrix.{entry, row}
use Rattle.ml_kem.proofs.Building.{collected-all, collected-more, collected-none, length-collected}
use Rattle.ml_kem.proofs.Taken.{IsPolynomial-sample}
use Rattle.ml_kem.proofs.matrix.sample_row.Goals as goal

pub returns-in-None-clause-value : goal.returns-in-None-clause-value
unfolding row
returns-in-None-clause-value g c =
    collected-none (entry g.H.KemHash.family c.args.rho.now c.args.i) c.loop-j.j c.args.k (omega arith) (ap (option_map inverse_transform) (sym c.in-None.ensures))

pub loop-j-preserved : goal.loop-j-preserved
loop-j-preserved g c =
    let items : List (List ℕ) = c.loop-j.items.items in
    let f : List ℕ = c.in-Some.f in
    record {
      made = collected-more (entry g.H.KemHash.family c.args.rho.now c.args.i) c.loop-j.j (map inverse_transform items) (inverse_transform f)
          (ap (option_map inverse_transform) (sym c.in-Some.ensures)) c.loop-j.invariant.made
          ∙ ap Some (sym (ap (map inverse_transform) c.in_ok-push-in-Some.ensures.items ∙ map-append inverse_transform items (f ∷ [])));
      polynomials = rw c.in_ok-push-in-Some.ensures.items (All-push (IsPolynomial 3329) items f c.loop-j.invariant.polynomials (IsPolynomial-sample _ f (sym c.in-Some.ensures)));
    }

pub returns-clause-value : goal.returns-clause-value
unfolding row
returns-clause-value g c =
    collected-all (entry g.H.KemHash.family c.args.rho.now c.args.i) c.loop-j.j c.args.k (map inverse_transform c.loop-j.items.items) (omega arith) c.loop-j.invariant.made
    ∙ ap (λ (v : List (List ℕ)). Some (map inverse_transform v)) (sym c.new.ensures)

pub returns-clause-long : goal.returns-clause-long
returns-clause-long g c =
    ap length c.new.ensures ∙ sym (length-map c.loop-j.items.items inverse_transform)
    ∙ length-collected (entry g.H.KemHash.family c.args.rho.now c.args.i) c.loop-j.j (map inverse_transform c.loop-j.items.items) c.loop-j.invariant.made ∙ omega arith
