use Rattle.std.proofs.Common.{ℕ, List, [], ◌∷◌, ◌++◌, length, sym, ◌∙◌}
use Rattle.sha3.specs.Sha3.{shake128}
use Rattle.sha3.proofs.Sizes.{length-shake128, take-shake128}
use Rattle.sha3_family.proofs.First.{first_read}
use Rattle.sha3_family.proofs.sha3_hash.Sha3HashKemHash.xof_blocks.Goals as goal

pub returns : goal.returns
returns c =
    let m : List ℕ = c.args.rho.now ++ c.args.a ∷ c.args.b ∷ [] in
    first_read (shake128 m) (length-shake128 m) (length c.args.out.now) c.read.new.buffer (c.read.ensures.output m 0 c.xof_reader.ensures)
    ∙ sym (take-shake128 m (length c.args.out.now) 2688 c.requires.within)
