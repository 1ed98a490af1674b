use Rattle.std.proofs.Common.{◌≡◌, ◌*◌, ◌++◌, length, refl, ap, ◌∙◌}
use Rattle.std.specs.Int.{div_ceil, to_be_bytes, w64}
use Rattle.gcm_core.specs.Gcm.{padded}
use Rattle.gcm_core.specs.Ghash.{block_of, polynomials}
use Rattle.gcm_core.specs.private.Continued.{continued}
use Rattle.gcm_core.proofs.Hash.{continued-authenticated}
use Rattle.gcm_core.proofs.ghash.ghash_of_sum.Goals as goal

pub returns : goal.returns
returns c = λ aad text ea et held.
    let h = c.args.key.now in
    let lengths : c.length_block.result ≡ to_be_bytes w64 (8 * length aad) ++ to_be_bytes w64 (8 * length text) = rw (ea, et) at c.length_block.ensures in
    c.block_of.ensures
    ∙ ap block_of (continued-authenticated h (continued h 0 (polynomials (div_ceil (length aad) 16) (padded aad))) c.args.sum c.absorb_block.result aad text c.length_block.result
    c.absorb_block.ensures.within refl held lengths c.ranges.sum.fits c.absorb_block.ensures.sum)
