use Rattle.std.proofs.Common.{rules, ◌∙◌, arith}
use Rattle.kem_hash.proofs.Joined.{digest_written, digests_written}
use Rattle.hash_families.proofs.family.repeat.Goals as goal

pub loop-t-preserved : goal.loop-t-preserved
loop-t-preserved g c =
    digest_written (λ i. g.P.Pattern.bytes) 3 0 c.loop-t.t c.loop-t.t _ c.loop-t.out c.copy_from_slice.new.self
    (omega arith) (omega arith) (c.copy_from_slice.ensures.after ∙ c.bytes.ensures) (search rules) c.loop-t.invariant

pub returns : goal.returns
returns g c = digests_written (λ i. g.P.Pattern.bytes) 3 0 c.loop-t.t 56 c.loop-t.out (omega arith) (omega arith) c.loop-t.invariant
