use Rattle.std.proofs.Common.{◌++◌}
use Rattle.hkdf_core.specs.Hmac.{hmac, key_block, masked, inner_pad, outer_pad}
use Rattle.hkdf_core.proofs.keyed_hash.Hmac.finalize.Goals as goal

pub returns-clause-code : goal.returns-clause-code
unfolding hmac
returns-clause-code g c = λ key text held.
    let block = key_block g.T.HkdfHash.hash_of g.T.HkdfHash.BLOCK_SIZE key in
    let inner = c.finish-digest.ensures.digest (masked inner_pad block ++ text) held.0 in
    let outer = c.finish.ensures.digest (masked outer_pad block ++ c.as_slice.result.now) (c.update.ensures (masked outer_pad block) held.1) in
    let read = c.as_slice.ensures in
    rw (outer, read, inner)
