use Rattle.std.proofs.Common.{ℕ, List, ◌∷◌, ap, sym}
use Rattle.key_der.proofs.Texts.{length_octets-long}
use Rattle.key_der.proofs.shape.long_opening.Goals as goal

pub returns : goal.returns
returns c = ap (λ (octets : List ℕ). c.args.identifier ∷ octets) (sym (length_octets-long c.args.size c.requires.long))
