use Rattle.std.proofs.Common.{ℕ, ◌<◌, get_or, ap, ◌∙◌, arith, rules}
use Rattle.std.proofs.lemmas.Simd.{Each1-from_get_or}
use lib.Lanes.{number_l}
use Rattle.gcm_core.proofs.Reversal.{polynomial_of-reversed}
use Rattle.gcm_core.proofs.ghash.polynomial_of.Goals as goal

pub returns : goal.returns
returns c =
    let bytes : (i : ℕ) → get_or c.args.block i 0 < 256 = search rules in
    c.number_of.ensures ∙ ap (number_l 256) c.reversed_bits.ensures
    ∙ polynomial_of-reversed c.args.block (omega arith) (Each1-from_get_or (λ x. x < 256) c.args.block 0 (λ i h. bytes i))
