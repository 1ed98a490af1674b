use Rattle.std.proofs.Common.{◌≡◌, ◌∙◌, ◌+◌, ◌*◌, ◌/◌, List, arith, sym, ℕ, length, ap, take, drop}
use Rattle.std.specs.Int.{div_ceil}
use Rattle.gcm_core.specs.Gcm.{padded}
use Rattle.gcm_core.proofs.Hash.{continued-done, continued-step, continued-two}
use Rattle.gcm_core.proofs.ghash.absorb.Goals as goal

pub loop-i-preserved : goal.loop-i-preserved
loop-i-preserved c =
    let m : ℕ = div_ceil (length c.args.bytes.now) 16 in (
      omega (arith, c.absorb_two-sum.type_inv),
      continued-two c.args.key.now c.loop-i.sum c.absorb_two-sum.result c.loop-i.i m (padded c.args.bytes.now) c.padded_block-first.result c.padded_block-second.result c.absorb_two-sum.ensures.within
          (omega arith) c.padded_block-first.ensures c.padded_block-second.ensures c.absorb_two-sum.ensures.sum
          ∙ c.loop-i.invariant.1,
    )

pub returns-then-count-eq1 : goal.returns-then-count-eq1
returns-then-count-eq1 c =
    let m : ℕ = div_ceil (length c.args.bytes.now) 16 in
    let n : ℕ = 2 * c.loop-i.i in
    let p : List ℕ = padded c.args.bytes.now in
    let at : 2 * (c.«div_ceil-count».result / 2) ≡ n = omega arith in
    let last : c.padded_block.result ≡ take 16 (drop (16 * n) p) = c.padded_block.ensures ∙ ap (λ (k : ℕ). take 16 (drop (16 * k) p)) at in
    sym (continued-done c.args.key.now c.absorb_block.result (n + 1) m p (omega (arith, c.absorb_block.type_inv)) (omega arith))
    ∙ continued-step c.args.key.now c.loop-i.sum c.absorb_block.result n m p c.padded_block.result c.absorb_block.ensures.within (omega arith) last c.absorb_block.ensures.sum
    ∙ c.loop-i.invariant.1

pub returns-else-count-eq1 : goal.returns-else-count-eq1
returns-else-count-eq1 c =
    let m : ℕ = div_ceil (length c.args.bytes.now) 16 in
    sym (continued-done c.args.key.now c.loop-i.sum (2 * c.loop-i.i) m (padded c.args.bytes.now) c.loop-i.invariant.0 (omega arith)) ∙ c.loop-i.invariant.1
