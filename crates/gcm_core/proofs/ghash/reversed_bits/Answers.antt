use Rattle.std.proofs.Common.{ℕ, ◌/◌, ◌^◌, List, refl, ◌∙◌, w8}
use Rattle.std.specs.Prelude.{bit_and, bit_xor}
use Rattle.std.specs.Int.{reverse_bits}
use Rattle.std.proofs.lemmas.Simd.{below_from_Fits, zip2_of_maps}
use Rattle.gcm_core.specs.declared.ghash.TheConstants.{REVERSED_HIGH, REVERSED_LOW}
use Rattle.gcm_core.specs.private.Nibbles.{entry_of}
use Rattle.gcm_core.proofs.HalfBytes.{high_of_block, low_of_block}
use Rattle.gcm_core.proofs.Lanes.{looked, map-bytes, places}
use Rattle.gcm_core.proofs.Reversal.{halves_reversed}
use Rattle.gcm_core.proofs.ghash.reversed_bits.Goals as goal

pub look_up-requires : goal.look_up-requires
look_up-requires c = places (λ x. bit_and x 15) c.args.bytes _ c.fits-bytes (low_of_block c.args.bytes c.fits-bytes) refl

pub look_up-requires-2 : goal.look_up-requires-2
look_up-requires-2 c = places (λ x. x / 2 ^ 4) c.args.bytes _ c.fits-bytes (high_of_block c.args.bytes c.fits-bytes) refl

pub returns : goal.returns
returns c =
    let s : List ℕ = c.args.bytes in
    zip2_of_maps bit_xor (λ x. entry_of REVERSED_LOW (bit_and x 15)) (λ x. entry_of REVERSED_HIGH (x / 2 ^ 4)) s
    (looked REVERSED_LOW (λ x. bit_and x 15) s _ _ c.look_up.ensures (low_of_block s c.fits-bytes)) (looked REVERSED_HIGH (λ x. x / 2 ^ 4) s _ _ c.«look_up-2».ensures (high_of_block s c.fits-bytes))
    ∙ map-bytes (λ x. bit_xor (entry_of REVERSED_LOW (bit_and x 15)) (entry_of REVERSED_HIGH (x / 2 ^ 4))) (reverse_bits w8) halves_reversed s (below_from_Fits w8 s c.fits-bytes.1)
