use Rattle.key_der.proofs.Texts.{length-private_header, length-public_header, one_asymmetric_key-parts, subject_public_key_info-parts}
use Rattle.key_der.proofs.laws.texts.Goals as goal

pub returns : goal.returns
returns c = record {
  private = one_asymmetric_key-parts;
  public = subject_public_key_info-parts;
  private_size = length-private_header;
  public_size = length-public_header;
}
