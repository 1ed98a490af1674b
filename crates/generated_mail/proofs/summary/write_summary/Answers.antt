use Rattle.std.proofs.Common.{◌++◌, ◌∙◌, subst, append_assoc}
use Rattle.std.specs.Prelude.{codes, decimal}
use Rattle.std.proofs.lemmas.Result.{err_from_is_err_and}
use Rattle.hex.specs.Hex.{encode_lower}
use Rattle.age_format.specs.Outside.{WrotePart, Writes}
use Rattle.age_send.proofs.Writing.{part_front, part_then, wrote_then, writes_last}
use Rattle.generated_mail.specs.Told.{value_line}
use Rattle.generated_mail.proofs.summary.write_summary.Goals as goal

pub returns-in_err-write_number : goal.returns-in_err-write_number
returns-in_err-write_number g c =
    let sink = g.W.Sink in
    let summary = c.args.summary.now in
    let one = value_line (codes "messages") (decimal summary.messages) in
    let two = value_line (codes "bytes") (decimal summary.bytes) in
    let three = value_line (codes "mail") (decimal summary.mail) in
    let four = value_line (codes "digest") (encode_lower summary.digest) in
    let p = err_from_is_err_and c.from_residual.result c.from_residual.ensures.1 in
    rw p.1 (part_front sink.got sink.faults sink.plan c.args.out.now c.write_number.new.out one (two ++ (three ++ four)) c.in_err-write_number.ensures)

pub returns-in_err-write_number-2 : goal.returns-in_err-write_number-2
returns-in_err-write_number-2 g c =
    let sink = g.W.Sink in
    let summary = c.args.summary.now in
    let one = value_line (codes "messages") (decimal summary.messages) in
    let two = value_line (codes "bytes") (decimal summary.bytes) in
    let three = value_line (codes "mail") (decimal summary.mail) in
    let four = value_line (codes "digest") (encode_lower summary.digest) in
    let p = err_from_is_err_and c.from_residual-in_err-write_number-2.result c.from_residual-in_err-write_number-2.ensures.1 in
    rw p.1 (part_then sink.got sink.faults sink.plan c.args.out.now c.write_number.new.out c.write_number-2.new.out one two (three ++ four) c.in_ok-write_number.ensures c.in_err-write_number-2.ensures)

pub returns-in_err-write_number-3 : goal.returns-in_err-write_number-3
returns-in_err-write_number-3 g c =
    let sink = g.W.Sink in
    let summary = c.args.summary.now in
    let one = value_line (codes "messages") (decimal summary.messages) in
    let two = value_line (codes "bytes") (decimal summary.bytes) in
    let three = value_line (codes "mail") (decimal summary.mail) in
    let four = value_line (codes "digest") (encode_lower summary.digest) in
    let p = err_from_is_err_and c.from_residual-in_err-write_number-3.result c.from_residual-in_err-write_number-3.ensures.1 in
    let first = wrote_then sink.got sink.faults sink.plan c.args.out.now c.write_number.new.out c.write_number-2.new.out one two c.in_ok-write_number.ensures c.in_ok-write_number-2.ensures in
    rw p.1 (subst (WrotePart sink.got sink.faults sink.plan c.args.out.now c.write_number-3.new.out) (append_assoc one two (three ++ four))
    (part_then sink.got sink.faults sink.plan c.args.out.now c.write_number-2.new.out c.write_number-3.new.out (one ++ two) three four first c.in_err-write_number-3.ensures))

pub returns : goal.returns
returns g c =
    let sink = g.W.Sink in
    let summary = c.args.summary.now in
    let one = value_line (codes "messages") (decimal summary.messages) in
    let two = value_line (codes "bytes") (decimal summary.bytes) in
    let three = value_line (codes "mail") (decimal summary.mail) in
    let four = value_line (codes "digest") (encode_lower summary.digest) in
    let first = wrote_then sink.got sink.faults sink.plan c.args.out.now c.write_number.new.out c.write_number-2.new.out one two c.in_ok-write_number.ensures c.in_ok-write_number-2.ensures in
    let second = wrote_then sink.got sink.faults sink.plan c.args.out.now c.write_number-2.new.out c.write_number-3.new.out (one ++ two) three first c.in_ok-write_number-3.ensures in
    subst (Writes sink.got sink.faults sink.plan c.args.out.now c.write_digits.new.out c.write_digits.result) (append_assoc (one ++ two) three four ∙ append_assoc one two (three ++ four))
    (writes_last sink.got sink.faults sink.plan c.args.out.now c.write_number-3.new.out c.write_digits.new.out c.write_digits.result ((one ++ two) ++ three) four second c.write_digits.ensures)
