use Rattle.std.proofs.Common.{◌≤◌, arith}
use Rattle.hkdf_core.proofs.Blocks.{take-over_zeros}
use Rattle.hkdf_core.proofs.key_block.KeyBlock.padded.Goals as goal

pub returns : goal.returns
returns g c =
    let known = g.met.T.HkdfHash.block_size_is_64_or_128 in
    let within : g.T.HkdfHash.BLOCK_SIZE ≤ 128 = omega (arith, known) in
    rw c.copy_from_slice.ensures.after (take-over_zeros c.args.key.now g.T.HkdfHash.BLOCK_SIZE 128 c.requires within)
