use Rattle.std.proofs.Common.{◌≡◌, ℕ, ◌+◌, ◌-◌, ◌*◌, ◌/◌, [], length, refl, sym, ap, ◌∙◌, arith, drop, take, List, length-drop}
use Rattle.std.proofs.lemmas.List.{length-take}
use Rattle.gcm_core.specs.Aes.{cipher}
use Rattle.gcm_core.specs.private.Counters.{counter_after}
use Rattle.gcm_core.specs.Gcm.{gctr_blocks}
use Rattle.gcm_core.specs.Ghash.{polynomials}
use Rattle.gcm_core.specs.private.Continued.{continued}
use Rattle.gcm_core.proofs.Hash.{continued-empty}
use Rattle.gcm_core.proofs.Chunks.{chunks-step}
use Rattle.gcm_core.proofs.Stream.{gctr_blocks-none}
use Rattle.gcm_core.proofs.gcm.seal_chunks.Goals as goal

pub loop-i-init : goal.loop-i-init
unfolding counter_after
loop-i-init c = (refl, sym (gctr_blocks-none (cipher c.args.round_keys.now) c.args.counter.now []), refl, sym (continued-empty c.args.key.now c.args.earlier _ c.ranges.earlier.fits), c.ranges.earlier.fits)

pub loop-i-preserved : goal.loop-i-preserved
loop-i-preserved c =
    let i = c.loop-i.i in
    let ciph : List ℕ → List ℕ = cipher c.args.round_keys.now in
    let k : ℕ = 4096 * i + 4096 - 4096 * i in
    let whole : k ≡ 4096 = omega arith in
    let x : List ℕ = take k (drop (4096 * i) c.loop-i.text) in
    let ys : List ℕ = c.seal_chunk-sum.new.text in
    let long : length x ≡ 4096 = length-take k (drop (4096 * i) c.loop-i.text) ∙ omega (arith, length-drop (4096 * i) c.loop-i.text) in
    let blocks : length x / 16 ≡ 256 = omega arith in
    let step = chunks-step ciph c.args.key.now i k c.args.counter.now c.loop-i.counter c.seal_chunk-sum.new.counter c.args.text.now c.loop-i.text ys c.args.earlier c.loop-i.sum c.seal_chunk-sum.result
    (omega arith) whole (omega arith) c.requires.within c.ranges.earlier.fits c.loop-i.invariant.0 c.loop-i.invariant.1 c.loop-i.invariant.2 c.loop-i.invariant.3 (omega (arith, c.seal_chunk-sum.auto.text))
    (c.seal_chunk-sum.ensures.text ∙ ap (λ m. gctr_blocks ciph m c.loop-i.counter x) blocks) (c.seal_chunk-sum.ensures.counter ∙ ap (λ m. counter_after m c.loop-i.counter) blocks)
    (c.seal_chunk-sum.ensures.sum ∙ ap (λ m. continued c.args.key.now c.loop-i.sum (polynomials m ys)) blocks) in
    (step.0, step.1, step.2, step.3, c.seal_chunk-sum.type_inv)
