use Rattle.std.proofs.Common.{Err, ap}
use Rattle.age_legacy.specs.Legacy.{Malformed}
use Rattle.age_legacy.proofs.Readings.{older, read_older}
use Rattle.age_legacy.proofs.read.legacy_age_stanza.Goals as goal

pub returns-clause-read : goal.returns-clause-read
returns-clause-read c =
    let malformed = c.in-Err-Error.ensures.error (ap Err c.in-Err-Error.field-0-is) in
    read_older (λ found. found.1) (λ found. found.0.now) c.stanza_behind.result c.args.input.now c.in-Some.header c.in-Some.behind.now malformed (rw c.in-Some.is at c.in_ok-header.ensures.read) c.stanza_behind.ensures.read

pub returns-clause-error : goal.returns-clause-error
returns-clause-error c e =
    let malformed = c.in-Err-Error.ensures.error (ap Err c.in-Err-Error.field-0-is) in
    let begins = rw c.in-Some.is at c.in_ok-header.ensures.read in
    older c.args.input.now Malformed malformed (record { header = c.in-Some.header; behind = c.in-Some.behind.now; begins = begins; reads = c.stanza_behind.ensures.error e })
