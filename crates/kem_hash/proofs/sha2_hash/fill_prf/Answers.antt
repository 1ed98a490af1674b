use Rattle.std.proofs.Common.{rules, ◌∙◌, arith}
use Rattle.kem_hash.specs.Sha2.{prf_digest}
use Rattle.kem_hash.proofs.Joined.{digest_written}
use Rattle.kem_hash.proofs.sha2_hash.fill_prf.Goals as goal

pub loop-c-preserved : goal.loop-c-preserved
loop-c-preserved c =
    digest_written (prf_digest c.args.s.now c.args.b) 32 0 c.loop-c.c c.loop-c.c _ c.loop-c.out c.copy_from_slice.new.self
    (omega arith) (omega arith) (c.copy_from_slice.ensures.after ∙ c.sha256_of-digest.ensures) (search rules) c.loop-c.invariant
