use Rattle.std.proofs.Common.{refl}
use Rattle.key_der.specs.Der.{encoding, length_octets}
use Rattle.key_der.specs.Keys.{algorithm_identifier, oid, private_header, public_header}
use Rattle.key_der.proofs.laws.headers.Goals as goal

pub returns : goal.returns
unfolding private_header public_header algorithm_identifier encoding length_octets oid
returns c = record {
  private_512 = refl;
  private_768 = refl;
  private_1024 = refl;
  public_512 = refl;
  public_768 = refl;
  public_1024 = refl;
}
