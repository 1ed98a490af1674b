use Rattle.std.proofs.Common.{ℕ, ap, ◌∙◌, sym}
use Rattle.gcm_core.specs.Ghash.{block_product}
use Rattle.gcm_core.proofs.Hash.{zero-and}
use Rattle.gcm_core.proofs.hash_key.HashKey.new.Goals as goal

pub invariant_of-result : goal.invariant_of-result
invariant_of-result c = (
  c.«new-square».ensures.value ∙ c.products_sum.ensures ∙ zero-and c.«new-first».result c.«new-first».result c.args.subkey
      ∙ ap (λ (z : ℕ). block_product z c.«new-first».result) (sym c.«new-first».ensures.value),
  rw c.«new-first».ensures.value c.«new-first».ensures.within,
)
