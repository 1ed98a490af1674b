use Rattle.std.proofs.Common.{◌≡◌, ℕ, ◌-◌, ◌+◌, ◌*◌, ◌%◌, ◌^◌, ◌<◌, List, ap, ◌∙◌, sym, arith}
use Rattle.std.specs.Prelude.{bit_xor}
use Rattle.std.proofs.lemmas.Nat.{xor_lt}
use lib.Bits.{xor_zero_r}
use lib.Lanes.{number_l}
use Rattle.gcm_core.specs.Ghash.{block_product}
use Rattle.gcm_core.specs.private.Rows.{product_byte}
use Rattle.gcm_core.proofs.Shifts.{folded, raised-128}
use Rattle.gcm_core.proofs.Sums.{product_rows-is, product_rows-lt, rows-first, rows-high, rows-step, summed_rows}
use Rattle.gcm_core.proofs.hash_key.products_sum.Goals as goal

pub loop-j-init : goal.loop-j-init
loop-j-init c = (
  rows-first (product_byte c.args.x.now) (product_byte c.args.y.now) (number_l 256 c.«rows_sum-lower».result) c.«lanes_of-first».result c.«lanes_of-second».result c.«rows_sum-lower».ensures.sum,
  c.«rows_sum-lower».ensures.small,
  omega arith,
)

pub loop-j-preserved : goal.loop-j-preserved
loop-j-preserved c =
    let j = c.loop-j.j in
    let g = c.args.x.now in
    let h = c.args.y.now in
    let xs : List ℕ = c.«lanes_of-first».result in
    let ys : List ℕ = c.«lanes_of-second».result in
    let low : ℕ = number_l 256 c.loop-j.lower in
    let high : ℕ = number_l 256 c.loop-j.upper in
    let row : ℕ = number_l 256 c.«rows_sum-row».result in
    let up : ℕ = number_l 256 c.«moved_up-upper».result in
    let sum : number_l 256 c.«sum_of-lower».result ≡ bit_xor (low * 256 % 2 ^ 128) row =
    c.«sum_of-lower».ensures ∙ ap (λ (z : ℕ). bit_xor z row) (c.moved_up.ensures ∙ xor_zero_r (low * 256 % 2 ^ 128)) in
    let gs : summed_rows (product_byte g) (j + 1) (15 - j) xs < 2 ^ 128 = product_rows-lt g (j + 1) (15 - j) xs (omega arith) c.«lanes_of-first».ensures.bytes (omega (arith, c.«lanes_of-first».ensures.size)) in
    let hs : summed_rows (product_byte h) (j + 1) (15 - j) ys < 2 ^ 128 = product_rows-lt h (j + 1) (15 - j) ys (omega arith) c.«lanes_of-second».ensures.bytes (omega (arith, c.«lanes_of-second».ensures.size)) in
    let next = rows-step (product_byte g) (product_byte h) j (14 - j) low high row xs ys (omega arith) (omega arith) c.loop-j.invariant.0 c.loop-j.invariant.1
    c.loop-j.invariant.2 c.«rows_sum-row».ensures.small c.«rows_sum-row».ensures.sum gs hs in
    let bound : bit_xor (low * 256 % 2 ^ 128) row < 2 ^ 128 = xor_lt 128 (low * 256 % 2 ^ 128) row (omega arith) c.«rows_sum-row».ensures.small in (
      ap (λ (z : ℕ). folded z up) sum ∙ ap (folded (bit_xor (low * 256 % 2 ^ 128) row)) c.«moved_up-upper».ensures ∙ next,
      rw sum bound,
      rw c.«moved_up-upper».ensures (rows-high j low high (omega arith) c.loop-j.invariant.1 c.loop-j.invariant.2),
    )

pub returns : goal.returns
returns c =
    let g = c.args.x.now in
    let h = c.args.y.now in
    let xs : List ℕ = c.«lanes_of-first».result in
    let ys : List ℕ = c.«lanes_of-second».result in
    let low : ℕ = c.«number_of-low».result in
    let high : ℕ = c.«number_of-high».result in
    let done : c.loop-j.j ≡ 15 = omega arith in
    let small : high < 2 ^ 120 = rw c.«number_of-high».ensures (rw done at c.loop-j.invariant.2) in
    let two : high * 2 % 2 ^ 128 ≡ high * 2 = omega arith in
    let four : high * 4 % 2 ^ 128 ≡ high * 4 = omega arith in
    let last : high * 128 % 2 ^ 128 ≡ high * 128 = omega arith in
    let held : folded low high ≡ bit_xor (summed_rows (product_byte g) 16 0 xs) (summed_rows (product_byte h) 16 0 ys) =
    ap (λ (z : ℕ). folded z high) c.«number_of-low».ensures ∙ ap (folded (number_l 256 c.loop-j.lower)) c.«number_of-high».ensures ∙ (rw done at c.loop-j.invariant.0) in
    let p : summed_rows (product_byte g) 16 0 xs ≡ block_product c.args.a g =
    product_rows-is g xs c.«rows_sum-lower».ensures.within.0 c.«lanes_of-first».ensures.bytes (omega (arith, c.«lanes_of-first».ensures.size)) ∙ ap (λ (z : ℕ). block_product z g) c.«lanes_of-first».ensures.number in
    let q : summed_rows (product_byte h) 16 0 ys ≡ block_product c.args.b h =
    product_rows-is h ys c.«rows_sum-lower».ensures.within.1 c.«lanes_of-second».ensures.bytes (omega (arith, c.«lanes_of-second».ensures.size)) ∙ ap (λ (z : ℕ). block_product z h) c.«lanes_of-second».ensures.number in
    rw (two, four, last) (ap (bit_xor low) (sym (raised-128 high small)))
    ∙ held ∙ ap (λ (z : ℕ). bit_xor z (summed_rows (product_byte h) 16 0 ys)) p ∙ ap (bit_xor (block_product c.args.a g)) q
