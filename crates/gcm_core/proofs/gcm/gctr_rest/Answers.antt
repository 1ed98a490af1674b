use Rattle.std.proofs.Common.{◌≡◌, ℕ, ◌-◌, ◌*◌, length, ap, sym, ◌∙◌, arith}
use Rattle.std.specs.Int.{div_ceil}
use Rattle.gcm_core.specs.Aes.{cipher}
use Rattle.gcm_core.specs.Gcm.{gctr, gctr_blocks}
use Rattle.gcm_core.proofs.Stream.{gctr_blocks-done, gctr_blocks-step}
use Rattle.gcm_core.proofs.gcm.gctr_rest.Goals as goal

pub loop-i-init : goal.loop-i-init
unfolding gctr
loop-i-init c =
    let all : div_ceil (length c.args.text.now) 16 - 0 ≡ div_ceil (length c.args.text.now) 16 = omega arith in
    ap (λ (m : ℕ). gctr_blocks (cipher c.args.round_keys.now) m c.args.icb c.args.text.now) all

pub loop-i-preserved : goal.loop-i-preserved
loop-i-preserved c =
    let start : ℕ = 16 * c.loop-i.i in
    gctr_blocks-step (cipher c.args.round_keys.now) c.loop-i.i (div_ceil (length c.args.text.now) 16) (c.min-end.result - start) c.loop-i.counter c.inc32.new.block
    c.loop-i.text c.cipher-stream.result c.xor_in_place.new.text (omega arith) (omega arith) (omega arith) (omega arith) c.cipher-stream.ensures c.inc32.ensures
    c.xor_in_place.ensures
    ∙ c.loop-i.invariant

pub returns : goal.returns
returns c =
    sym (gctr_blocks-done (cipher c.args.round_keys.now) c.loop-i.i (div_ceil (length c.args.text.now) 16) c.loop-i.counter c.loop-i.text (omega arith) (omega arith))
    ∙ c.loop-i.invariant
