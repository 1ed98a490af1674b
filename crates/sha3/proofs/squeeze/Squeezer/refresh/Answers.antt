use Rattle.std.proofs.Common.{refl, arith, ◌∙◌, ap, take}
use Rattle.std.proofs.lemmas.List.{take-take}
use Rattle.sha3.specs.Pieces.{Left, Squeezes}
use Rattle.sha3.specs.Sponge.{state_bytes}
use Rattle.sha3.proofs.Squeezing.{Squeezes-fresh}
use Rattle.sha3.proofs.squeeze.Squeezer.refresh.Goals as goal

pub returns-then-self-clause-same : goal.returns-then-self-clause-same
returns-then-self-clause-same g c = λ from given is.
    let old : Left = record { state = c.self.inside.state; block = take g.row.RATE c.self.inside.block; gone = c.self.inside.gone } in
    let was : Squeezes g.row.RATE from old given = rw c.self.view_is is in
    Squeezes-fresh g.row.RATE old _ from given was c.if-self.true c.keccak_f-self-inside.ensures
    (ap (take g.row.RATE) c.first_bytes-self-inside.ensures ∙ take-take g.row.RATE 168 (state_bytes c.keccak_f-self-inside.result) (omega arith)) refl
