use Rattle.std.proofs.Common.{◌≡◌, ◌+◌, length, ap, ◌∙◌, sym, arith}
use Rattle.sha3.specs.Sponge.{output}
use Rattle.sha3.proofs.squeeze.first_output.Goals as goal

pub returns : goal.returns
unfolding output
returns g c =
    let all : 0 + length c.args.out.now ≡ length c.args.out.now = omega arith in
    sym (sym (ap (output g.row.RATE c.args.state.now) all) ∙ c.read.ensures.output c.args.state.now 0 c.new.ensures)
