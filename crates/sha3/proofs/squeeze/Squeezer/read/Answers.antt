use Rattle.std.proofs.Common.{◌≡◌, ◌≤◌, arith, ◌∙◌, ◌+◌, ◌-◌, ◌++◌, ap, sym, List, ℕ, take, drop, length, length-drop, subst}
use Rattle.std.proofs.lemmas.List.{append_assoc, length-take-le}
use Rattle.sha3.specs.Pieces.{Squeezes}
use Rattle.sha3.specs.Sponge.{output}
use Rattle.sha3.proofs.Fronts.{length-put_part, take-put_rest}
use Rattle.sha3.proofs.squeeze.Squeezer.read.Goals as goal

pub loop-filled-preserved : goal.loop-filled-preserved
loop-filled-preserved g c =
    let f : ℕ = c.loop-filled.filled in
    let r : ℕ = c.give-filled.result in
    let out : List ℕ = c.loop-filled.out in
    let rest : List ℕ = c.give-filled.new.out in
    let part : length (take (length out - f) (drop f out)) ≡ length out - f = length-take-le (length out - f) (drop f out) (omega (arith, length-drop f out)) in
    let size : length rest ≡ length out - f = c.give-filled.auto.out ∙ part in
    let fits : r ≤ length out - f = omega (arith, c.give-filled.ensures.within, part) in
    record {
      within = omega (arith, length-put_part f (length out - f) out rest (omega arith) size, fits);
      output = λ from given is.
          let step = c.give-filled.ensures.output from (given + f) (c.refresh.ensures.same from (given + f) (c.loop-filled.invariant.given from given is)) in
          let same : given + (f + r) ≡ given + f + r = omega arith in
          ap (output g.row.RATE from) same ∙ step ∙ ap (λ (x : List ℕ). x ++ take r rest) (c.loop-filled.invariant.output from given is)
          ∙ append_assoc (output g.row.RATE from given) (take f out) (take r rest)
          ∙ ap (λ (x : List ℕ). output g.row.RATE from given ++ x) (sym (take-put_rest f r out rest (omega arith) (omega (arith, size, fits))));
      given = λ from given is.
          let same : given + f + r ≡ given + (f + r) = omega arith in
          subst (λ (n : ℕ). Squeezes g.row.RATE from c.give-filled.new.self n) same
          (c.give-filled.ensures.given from (given + f) (c.refresh.ensures.same from (given + f) (c.loop-filled.invariant.given from given is)));
    }
