use Rattle.std.proofs.Common.{◌∙◌, sym, w8}
use Rattle.std.proofs.lemmas.Simd.{below_from_Fits}
use Rattle.gcm_core.proofs.Moved.{number-xor}
use Rattle.gcm_core.proofs.hash_key.sum_of.Goals as goal

pub returns : goal.returns
returns c =
    number-xor c.args.a c.args.b (c.fits-a.0 ∙ sym c.fits-b.0) (below_from_Fits w8 c.args.a c.fits-a.1) (below_from_Fits w8 c.args.b c.fits-b.1)
