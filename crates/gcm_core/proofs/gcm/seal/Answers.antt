use Rattle.std.proofs.Common.{ℕ, List, length, true, false, refl, ap, ◌∙◌}
use Rattle.std.specs.Int.{div_ceil}
use Rattle.gcm_core.specs.Aes.{cipher}
use Rattle.gcm_core.specs.Gcm.{padded}
use Rattle.gcm_core.specs.Ghash.{polynomials}
use Rattle.gcm_core.specs.private.Continued.{continued}
use Rattle.gcm_core.proofs.Reversal.{polynomial_of-lt}
use Rattle.gcm_core.proofs.Sealing.{fits_limits-tested, gcm_ae-made, gcm_ae-past, none_and_none, some_or_none, tag_of-made}
use Rattle.gcm_core.proofs.gcm.seal.Goals as goal

pub returns-then-not-is_within_limits-clause-refused : goal.returns-then-not-is_within_limits-clause-refused
returns-then-not-is_within_limits-clause-refused c =
    none_and_none _ (gcm_ae-past (cipher c.args.round_keys.now) c.args.nonce.now c.args.aad.now c.args.buf.now
    (fits_limits-tested c.args.aad.now c.args.buf.now c.is_within_limits.result false c.is_within_limits.ensures c.if-not-is_within_limits.true))

pub seal_text-sum-requires-clause-within : goal.seal_text-sum-requires-clause-within
seal_text-sum-requires-clause-within c = rw c.requires.subkey (polynomial_of-lt _)

pub returns-clause-sealed : goal.returns-clause-sealed
returns-clause-sealed c =
    let ciph = cipher c.args.round_keys.now in
    let h = c.args.key.now in
    let text : List ℕ = c.«seal_text-sum».new.text in
    let sum = c.«seal_text-sum».ensures.sum ∙ ap (λ y. continued h y (polynomials (div_ceil (length text) 16) (padded text))) c.absorb.ensures in
    gcm_ae-made ciph c.args.nonce.now c.args.aad.now c.args.buf.now _ text _
    (fits_limits-tested c.args.aad.now c.args.buf.now c.is_within_limits.result true c.is_within_limits.ensures c.if-not-is_within_limits.false)
    c.text_start.ensures c.«seal_text-sum».ensures.text
    (tag_of-made ciph h c.args.nonce.now c.args.aad.now text c.«ghash_of_sum-hash».result _ c.requires.subkey (c.«ghash_of_sum-hash».ensures c.args.aad.now text refl refl sum) c.tag_of_hash.ensures)

pub returns-clause-refused : goal.returns-clause-refused
returns-clause-refused c = some_or_none _ _ (returns-clause-sealed c)
