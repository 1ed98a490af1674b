use Rattle.std.proofs.Common.{refl}
use Rattle.std.specs.Fmt.{digits}
use Rattle.hex.specs.Hex.{encode_with}
use Rattle.mail_commands.proofs.laws.worked_lines.Goals as goal

pub returns-clause-items : goal.returns-clause-items
unfolding encode_with
returns-clause-items c = refl

pub returns-clause-place : goal.returns-clause-place
unfolding digits
returns-clause-place c = refl

pub returns-clause-not_one_kem : goal.returns-clause-not_one_kem
unfolding digits
returns-clause-not_one_kem c = refl

pub returns-clause-length : goal.returns-clause-length
unfolding digits
returns-clause-length c = refl

pub returns-clause-open_error : goal.returns-clause-open_error
unfolding digits
returns-clause-open_error c = refl

pub returns-clause-input_place : goal.returns-clause-input_place
unfolding digits
returns-clause-input_place c = refl
