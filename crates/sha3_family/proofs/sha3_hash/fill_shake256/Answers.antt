use Rattle.std.proofs.Common.{ℕ, List, [], ◌++◌, length}
use Rattle.sha3.specs.Sha3.{shake256}
use Rattle.sha3.proofs.Sizes.{length-shake256}
use Rattle.sha3_family.proofs.First.{first_read}
use Rattle.sha3_family.proofs.sha3_hash.fill_shake256.Goals as goal

pub returns : goal.returns
returns c =
    let a : List ℕ = c.args.a.now in
    let m : List ℕ = a ++ c.args.b.now in
    let gave = c.finalize_xof.ensures m (c.update-2.ensures a (c.update.ensures [] c.new-function.ensures)) in
    first_read (shake256 m) (length-shake256 m) (length c.args.out.now) c.read.new.buffer (c.read.ensures.output m 0 gave)
