use Rattle.std.proofs.Common.{rules, ◌*◌, ◌∙◌, arith}
use Rattle.kem_hash.specs.Sha2.{xof_digest}
use Rattle.kem_hash.proofs.Joined.{digest_written, digests_written}
use Rattle.kem_hash.proofs.sha2_hash.fill_block.Goals as goal

pub loop-k-preserved : goal.loop-k-preserved
loop-k-preserved c =
    digest_written (xof_digest c.args.rho.now c.args.a c.args.b) 28 (6 * c.args.n) c.loop-k.k _ _ c.loop-k.out c.copy_from_slice.new.self
    (omega arith) (omega arith) (c.copy_from_slice.ensures.after ∙ c.xof_digest-digest.ensures) (search rules) c.loop-k.invariant

pub returns : goal.returns
returns c =
    digests_written (xof_digest c.args.rho.now c.args.a c.args.b) 28 (6 * c.args.n) c.loop-k.k 6 c.loop-k.out
    (omega arith) (omega arith) c.loop-k.invariant
