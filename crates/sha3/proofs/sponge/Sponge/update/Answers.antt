use Rattle.std.proofs.Common.{◌≡◌, List, ℕ, ◌++◌, ◌-◌, length, take, drop, subst, ap, ◌∙◌, arith, length-drop}
use Rattle.std.proofs.lemmas.List.{take_all}
use Rattle.sha3.specs.Pieces.{Absorbs}
use Rattle.sha3.proofs.Absorbing.{take_more_text}
use Rattle.sha3.proofs.sponge.Sponge.update.Goals as goal

pub loop-start-smaller : goal.loop-start-smaller
loop-start-smaller g c = let some = c.fill-start.ensures.some (omega (arith, length-drop c.loop-start.start c.args.piece.now)) in omega (arith, some)

pub loop-start-preserved : goal.loop-start-preserved
loop-start-preserved g c =
    let start : ℕ = c.loop-start.start in
    let piece : List ℕ = c.args.piece.now in
    let rest : take (length piece - start) (drop start piece) ≡ drop start piece = take_all (length piece - start) (drop start piece) (omega (arith, length-drop start piece)) in
    record {
      within = omega (arith, length-drop start piece);
      taken = λ m is.
          subst (λ (text : List ℕ). Absorbs g.row.RATE c.fill-start.new.self text)
          (ap (λ (r : List ℕ). (m ++ take start piece) ++ take c.fill-start.result r) rest ∙ take_more_text m piece start c.fill-start.result)
          (c.fill-start.ensures.taken (m ++ take start piece) (c.loop-start.invariant.taken m is));
    }
