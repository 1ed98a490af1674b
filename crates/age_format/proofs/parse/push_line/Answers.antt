use Rattle.std.proofs.Common.{◌++◌, List, ℕ, drop, ap, sym, ◌∙◌}
use Rattle.std.specs.Result.{result_ok}
use Rattle.std.proofs.lemmas.List.{take-append-drop}
use Rattle.base64.specs.GeneralPurpose.{decoded_of}
use Rattle.age_format.proofs.Cases.{bytes_from}
use Rattle.age_format.proofs.parse.push_line.Goals as goal

pub returns-in-Ok-clause-value : goal.returns-in-Ok-clause-value
unfolding decoded_of
returns-in-Ok-clause-value c =
    let e = c.in-Ok.ensures in
    let n = c.args.body.now.len in
    let new = c.decode_vec.new.buffer.items in
    (drop n new, ap result_ok e.ok, sym (ap (λ (t : List ℕ). t ++ drop n new) (sym e.front) ∙ take-append-drop n new))

pub returns-in-Err-DecodeError-clause-value : goal.returns-in-Err-DecodeError-clause-value
unfolding decoded_of
returns-in-Err-DecodeError-clause-value c = (ap result_ok (rw c.in-Err-DecodeError.field-0-is at c.in-Err-DecodeError.ensures.err), c.in-Err-DecodeError.ensures.same)

pub returns-in-Ok-clause-bytes : goal.returns-in-Ok-clause-bytes
returns-in-Ok-clause-bytes c = bytes_from _ c.type_inv.body

pub returns-in-Err-DecodeError-clause-bytes : goal.returns-in-Err-DecodeError-clause-bytes
returns-in-Err-DecodeError-clause-bytes c = bytes_from _ c.type_inv.body
