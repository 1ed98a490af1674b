use Rattle.std.proofs.Common.{map, ap, ◌∙◌, w8}
use Rattle.std.specs.Prelude.{bit_xor}
use Rattle.std.proofs.lemmas.Simd.{below_from_Fits, map-map}
use Rattle.gcm_core.specs.declared.nibbles.TheConstants.{AFFINE}
use Rattle.gcm_core.specs.private.Nibbles.{changed}
use Rattle.gcm_core.proofs.HalfBytes.{same_lanes}
use Rattle.gcm_core.proofs.Lanes.{with_splat}
use Rattle.gcm_core.proofs.nibbles.with_affine.Goals as goal

pub returns-clause-value : goal.returns-clause-value
returns-clause-value c =
    c.changed.ensures.0 ∙ ap (map changed) (with_splat bit_xor (λ x. x) AFFINE c.args.s c.args.s c.fits-s (same_lanes c.args.s))
    ∙ map-map changed (λ x. bit_xor x AFFINE) c.args.s

pub returns-clause-bytes : goal.returns-clause-bytes
returns-clause-bytes c = below_from_Fits w8 c.args.s c.fits-s.1
