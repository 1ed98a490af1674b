use Rattle.std.proofs.Common.{ℕ, ap, ◌∙◌}
use Rattle.std.specs.Prelude.{bit_xor}
use Rattle.gcm_core.specs.Ghash.{block_product}
use Rattle.gcm_core.proofs.Hash.{horner-two}
use Rattle.gcm_core.proofs.hash_key.HashKey.times_twice.Goals as goal

pub returns-clause-product : goal.returns-clause-product
returns-clause-product c =
    let h : ℕ = c.self.inside.subkey in
    c.products_sum.ensures ∙ ap (λ (z : ℕ). bit_xor (block_product c.args.first z) (block_product c.args.second h)) c.self.invariant.0
    ∙ horner-two h c.args.first c.args.second c.self.invariant.1
    ∙ ap (λ (z : ℕ). block_product (bit_xor (block_product c.args.first z) c.args.second) z) c.self.view_is

pub returns-clause-within : goal.returns-clause-within
returns-clause-within c = rw c.self.view_is at c.self.invariant.1
