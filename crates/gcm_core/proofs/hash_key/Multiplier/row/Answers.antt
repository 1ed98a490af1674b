use Rattle.std.proofs.Common.{ℕ, map, ap, ◌∙◌, w8}
use Rattle.std.proofs.lemmas.Simd.{below_from_Fits}
use lib.Lanes.{number_l}
use Rattle.gcm_core.specs.private.Rows.{product_byte, row_at}
use Rattle.gcm_core.proofs.Lanes.{map-bytes}
use Rattle.gcm_core.proofs.Sums.{row_at-is}
use Rattle.gcm_core.proofs.hash_key.Multiplier.row.Goals as goal

pub returns-clause-sum : goal.returns-clause-sum
returns-clause-sum c =
    let rows = c.self.inside.rows in
    let h = c.self.inside.by in
    let b = c.args.b in
    c.row_sum.ensures.sum
    ∙ ap (number_l 256) (map-bytes (row_at rows b) (product_byte h b) (λ x hx. row_at-is h rows b x c.self.invariant.0 c.self.told c.self.invariant.1 c.requires hx) c.args.lanes (below_from_Fits w8 c.args.lanes c.fits-lanes.1))
    ∙ ap (λ (k : ℕ). number_l 256 (map (product_byte k b) c.args.lanes)) c.self.view_is

pub returns-clause-small : goal.returns-clause-small
returns-clause-small c = c.row_sum.ensures.small

pub returns-clause-within : goal.returns-clause-within
returns-clause-within c = rw c.self.view_is at c.self.invariant.1
