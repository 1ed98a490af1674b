use Rattle.std.proofs.Common.{◌≡◌, ◌%◌, ◌/◌, ◌∙◌, length, arith, ap}
use Rattle.gcm_core.specs.Ghash.{polynomials}
use Rattle.gcm_core.specs.private.Continued.{continued}
use Rattle.gcm_core.proofs.Hash.{continued-blocks}
use Rattle.gcm_core.proofs.gcm.seal_chunk.Goals as goal

pub returns-clause-sum : goal.returns-clause-sum
returns-clause-sum c =
    let out = c.gctr_fours.new.text in
    let same : length out ≡ length c.args.text.now = omega (arith, c.gctr_fours.auto.text) in
    let whole : length out % 16 ≡ 0 = omega arith in
    c.absorb.ensures ∙ continued-blocks c.args.key.now c.args.earlier out whole
    ∙ ap (λ k. continued c.args.key.now c.args.earlier (polynomials (k / 16) out)) same
