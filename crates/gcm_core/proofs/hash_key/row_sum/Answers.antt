use Rattle.std.proofs.Common.{◌≡◌, ℕ, ◌+◌, ◌-◌, ◌*◌, ◌/◌, ◌^◌, List, drop, length, take, map, replicate, arith, refl, rules, ap, ◌∙◌}
use Rattle.std.specs.Prelude.{bit_and, bit_xor}
use Rattle.std.proofs.lemmas.List.{take-take}
use Rattle.std.proofs.lemmas.Simd.{zip2_of_maps}
use lib.Lanes.{number_l, zip2}
use Rattle.gcm_core.specs.private.Nibbles.{entry_of}
use Rattle.gcm_core.proofs.HalfBytes.{down, high_of_block, low_of_block}
use Rattle.gcm_core.proofs.Lanes.{looked, places}
use Rattle.gcm_core.proofs.Moved.{number-xor-lt}
use Rattle.gcm_core.proofs.hash_key.row_sum.Goals as goal

pub look_up-low-requires : goal.look_up-low-requires
look_up-low-requires c = places (λ x. bit_and x 15) c.args.lanes _ c.fits-lanes (low_of_block c.args.lanes c.fits-lanes) refl

pub look_up-high-requires : goal.look_up-high-requires
look_up-high-requires c = places (λ x. x / 2 ^ 4) c.args.lanes _ c.fits-lanes (high_of_block c.args.lanes c.fits-lanes) refl

pub returns-clause-sum : goal.returns-clause-sum
returns-clause-sum c =
    let s : List ℕ = c.args.lanes in
    let b = c.args.b in
    let rows : List ℕ = c.args.rows.now in
    let low : List ℕ = take 16 (drop (32 * b) rows) in
    let high : List ℕ = take 16 (drop (32 * b + 16) rows) in
    let e : take 16 (take (512 - 32 * b) (drop (32 * b) rows)) ≡ low = take-take 16 (512 - 32 * b) (drop (32 * b) rows) (omega arith) in
    let f : take 16 (take (512 - (32 * b + 16)) (drop (32 * b + 16) rows)) ≡ high = take-take 16 (512 - (32 * b + 16)) (drop (32 * b + 16) rows) (omega arith) in
    ap (number_l 256) (zip2_of_maps bit_xor (λ x. entry_of low (bit_and x 15)) (λ x. entry_of high (x / 2 ^ 4)) s
    (looked low (λ x. bit_and x 15) s (zip2 bit_and s (replicate 16 15)) _ (c.«look_up-low».ensures ∙ ap (λ t. map (entry_of t) (zip2 bit_and s (replicate 16 15))) e) (low_of_block s c.fits-lanes))
    (looked high (λ x. x / 2 ^ 4) s (zip2 down s (replicate 16 4)) _ (c.«look_up-high».ensures ∙ ap (λ t. map (entry_of t) (zip2 down s (replicate 16 4))) f) (high_of_block s c.fits-lanes)))

pub returns-clause-small : goal.returns-clause-small
returns-clause-small c =
    let low : List ℕ = c.«look_up-low».result in
    let high : List ℕ = c.«look_up-high».result in
    let few : length low ≡ 16 = omega arith in
    let same : length high ≡ 16 = omega arith in
    number-xor-lt low high few same (search rules) (search rules)
