use Rattle.std.proofs.Common.{rules, ℕ, ◌*◌, ap, ◌∙◌, arith, length}
use Rattle.module_lattice.specs.Groups.{groups}
use Rattle.module_lattice.proofs.Encoding.{All-one-more, each-more, length-groups, piece-room}
use Rattle.module_lattice.proofs.encode.NttVectorEncode.encode.Goals as goal

pub loop-i-preserved : goal.loop-i-preserved
loop-i-preserved g c =
    let d : ℕ = c.args.d in
    record {
      bytes = each-more (groups d) (32 * d) c.loop-i.i _ c.args.self.now c.item.result.now c.loop-i.out c.byte_encode.new.out
          (search rules) c.item.ensures
          (omega (arith, piece-room (32 * d) (length c.args.self.now) c.loop-i.i (search rules), c.requires.room, c.loop-i.auto.out))
          (length-groups d c.item.result.now c.as_array.ensures.polynomial.size)
          (c.byte_encode.ensures ∙ ap (groups d) c.as_array.ensures.value) c.loop-i.invariant.bytes;
      polynomials = All-one-more g.F.Field.Q c.loop-i.i c.args.self.now c.item.result.now (search rules) c.item.ensures
          c.as_array.ensures.polynomial c.loop-i.invariant.polynomials;
    }
