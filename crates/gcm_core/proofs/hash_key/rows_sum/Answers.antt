use Rattle.std.proofs.Common.{ℕ, ap, ◌∙◌, map}
use Rattle.std.specs.Prelude.{bit_xor}
use Rattle.std.proofs.lemmas.Nat.{xor_lt}
use lib.Lanes.{number_l}
use Rattle.gcm_core.specs.private.Rows.{product_byte}
use Rattle.gcm_core.proofs.hash_key.rows_sum.Goals as goal

pub returns-clause-sum : goal.returns-clause-sum
returns-clause-sum c =
    c.sum_of.ensures ∙ ap (λ (z : ℕ). bit_xor z (number_l 256 c.«row-2».result)) c.row.ensures.sum
    ∙ ap (bit_xor (number_l 256 (map (product_byte c.args.x.now c.args.b) c.args.first))) c.«row-2».ensures.sum

pub returns-clause-small : goal.returns-clause-small
returns-clause-small c = rw c.sum_of.ensures (xor_lt 128 (number_l 256 c.row.result) (number_l 256 c.«row-2».result) c.row.ensures.small c.«row-2».ensures.small)

pub returns-clause-within : goal.returns-clause-within
returns-clause-within c = (c.row.ensures.within, c.«row-2».ensures.within)
