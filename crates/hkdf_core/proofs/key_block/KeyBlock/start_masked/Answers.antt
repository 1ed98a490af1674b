use Rattle.std.proofs.Common.{◌<◌, ◌≤◌, ℕ, List, length, take, ap, ◌∙◌, subst, arith}
use Rattle.hkdf_core.specs.Hmac.{masked}
use Rattle.hkdf_core.proofs.Blocks.{masked_more, take-masked}
use Rattle.hkdf_core.proofs.key_block.KeyBlock.start_masked.Goals as goal

pub loop-byte-preserved : goal.loop-byte-preserved
loop-byte-preserved g c =
    let within : c.loop-byte.byte-index < length c.self.inside.bytes = omega arith in
    masked_more c.args.pad c.self.inside.bytes c.loop-byte.byte-items c.loop-byte.byte-index within c.loop-byte.invariant

pub returns : goal.returns
returns g c =
    let whole : length c.self.inside.bytes ≤ c.loop-byte.byte-index = omega arith in
    let Held : List ℕ → Type 0 = λ message. g.T.HkdfHash.holds c.update.new.self message in
    let front = take-masked c.args.pad c.self.inside.bytes c.loop-byte.byte-items c.loop-byte.byte-index c.BLOCK_SIZE.result whole c.loop-byte.invariant in
    let size = ap (λ (n : ℕ). masked c.args.pad (take n c.self.inside.bytes)) c.BLOCK_SIZE.ensures in
    subst Held (front ∙ size ∙ ap (masked c.args.pad) c.self.view_is) (c.update.ensures _ c.start-hasher.ensures)
