use Rattle.std.proofs.Common.{◌≡◌, ℕ, ◌*◌, ◌/◌, ◌%◌, List, length, sym, ap, ◌∙◌, arith}
use Rattle.std.specs.Int.{div_ceil}
use Rattle.gcm_core.specs.Aes.{cipher}
use Rattle.gcm_core.specs.Gcm.{gctr, padded}
use Rattle.gcm_core.specs.Ghash.{polynomials}
use Rattle.gcm_core.specs.private.Continued.{continued}
use Rattle.gcm_core.proofs.Hash.{continued-rest}
use Rattle.gcm_core.proofs.Stream.{gctr_blocks-whole}
use Rattle.gcm_core.proofs.gcm.seal_text.Goals as goal

pub returns-clause-text : goal.returns-clause-text
unfolding gctr
returns-clause-text c =
    gctr_blocks-whole (cipher c.args.round_keys.now) (length c.args.text.now / 4096 * 4096) c.args.icb c.«seal_chunks-sum».new.counter c.args.text.now _ _ _ _ (omega arith) (omega arith)
    c.«split_at_mut-chunks».ensures.front c.«split_at_mut-chunks».ensures.back c.«seal_chunks-sum».ensures.text c.«seal_chunks-sum».ensures.counter c.gctr.ensures

pub returns-clause-sum : goal.returns-clause-sum
returns-clause-sum c =
    let h = c.args.key.now in
    let a : List ℕ = c.«seal_chunks-sum».new.text in
    let r : List ℕ = c.gctr.new.text in
    let old : List ℕ = c.«split_at_mut-chunks».result.0.now in
    let same : length a ≡ length old = omega (arith, c.«seal_chunks-sum».auto.text) in
    let whole : length a % 16 ≡ 0 = omega arith in
    let blocks : c.«seal_chunks-sum».result ≡ continued h c.args.earlier (polynomials (length a / 16) a) =
    c.«seal_chunks-sum».ensures.sum ∙ ap (λ k. continued h c.args.earlier (polynomials (k / 16) a)) (sym same) in
    c.absorb.ensures ∙ ap (λ y. continued h y (polynomials (div_ceil (length r) 16) (padded r))) blocks
    ∙ continued-rest h c.args.earlier a r c.requires.within c.ranges.earlier.fits whole
