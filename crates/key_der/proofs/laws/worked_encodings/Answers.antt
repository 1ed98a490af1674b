use Rattle.std.proofs.Common.{refl}
use Rattle.key_der.specs.Der.{encoding, length_octets}
use Rattle.key_der.proofs.laws.worked_encodings.Goals as goal

pub returns : goal.returns
unfolding encoding length_octets
returns c = record {
  short = refl;
  long = refl;
  last_short = refl;
  first_of_one = refl;
  last_of_one = refl;
  first_of_two = refl;
  last_of_two = refl;
  subidentifier = refl;
  octet_string = refl;
}
