use Rattle.std.proofs.Common.{ℕ, List, ap, refl}
use Rattle.std.specs.Prelude.{bit_xor}
use Rattle.std.proofs.lemmas.Simd.{zip2_of_maps}
use Rattle.gcm_core.specs.declared.nibbles.TheConstants.{AFFINE, FIRST, SECOND}
use Rattle.gcm_core.specs.private.Nibbles.{entry_of, first_half, second_half}
use Rattle.gcm_core.proofs.Lanes.{looked, places, with_splat}
use Rattle.gcm_core.proofs.nibbles.substituted.Goals as goal

pub look_up-requires : goal.look_up-requires
look_up-requires c = places first_half c.args.t _ c.fits-t (ap (λ (v : List ℕ × List ℕ). v.0) c.halves.ensures) refl

pub look_up-requires-2 : goal.look_up-requires-2
look_up-requires-2 c = places second_half c.args.t _ c.fits-t (ap (λ (v : List ℕ × List ℕ). v.1) c.halves.ensures) refl

pub returns : goal.returns
returns c =
    let t = c.args.t in
    let p = ap (λ (v : List ℕ × List ℕ). v.0) c.halves.ensures in
    let q = ap (λ (v : List ℕ × List ℕ). v.1) c.halves.ensures in
    with_splat bit_xor (λ x. bit_xor (entry_of FIRST (first_half x)) (entry_of SECOND (second_half x))) AFFINE t _ c.fits-t
    (zip2_of_maps bit_xor (λ x. entry_of FIRST (first_half x)) (λ x. entry_of SECOND (second_half x)) t (looked FIRST first_half t _ _ c.look_up.ensures p) (looked SECOND second_half t _ _ c.«look_up-2».ensures q))
