-- GF(2^8): what the table and the doubling compute.
use Rattle.std.proofs.Common.{◌≡◌, ℕ, ◌-◌, ◌*◌, ◌^◌, ◌<◌, ◌≤◌, List, map, slice_index, refl, sym, ap, ◌∙◌, arith}
use Rattle.std.specs.List.{range_with_len}
use Rattle.std.specs.Prelude.{bit_xor}
use Rattle.std.proofs.lemmas.Bool.Decides.{nat_tests}
use Rattle.std.proofs.lemmas.List.FromFn.{get_or-map-range_with_len}
use lib.Bits.{xor_zero_r}
use Rattle.gcm_core.specs.declared.aes.TheConstants.{S_BOX}
use Rattle.gcm_core.specs.FieldMul.{product_of, times_x}
use Rattle.gcm_core.specs.Aes.{byte_product, inverse, reduction_byte, s_box}

-- the table is the S-box, place by place
pub S_BOX_is : map s_box (range_with_len 0 256) ≡ S_BOX
unfolding byte_product product_of times_x inverse s_box
S_BOX_is = refl

pub slice_index-S_BOX : (b : ℕ) → b < 256 → slice_index S_BOX b ≡ s_box b
slice_index-S_BOX b h =
    ap (λ (t : List ℕ). slice_index t b) (sym S_BOX_is) ∙ get_or-map-range_with_len s_box 0 256 b b 0 h (omega arith)

pub times_x-low : (n r b : ℕ) → b < 2 ^ (n - 1) → times_x n r b ≡ 2 * b
unfolding times_x
times_x-low n r b h = grind (arith, nat_tests)

pub times_x-high : (n r b : ℕ) → 2 ^ (n - 1) ≤ b → times_x n r b ≡ bit_xor (2 * b - 2 ^ n) r
unfolding times_x
times_x-high n r b h = grind (arith, nat_tests)

pub byte_product-two : (b : ℕ) → byte_product 2 b ≡ times_x 8 reduction_byte b
unfolding byte_product product_of times_x
byte_product-two b = xor_zero_r _

pub byte_product-three : (b : ℕ) → byte_product 3 b ≡ bit_xor (times_x 8 reduction_byte b) b
unfolding byte_product product_of times_x
byte_product-three b = refl
