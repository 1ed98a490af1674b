use Rattle.std.proofs.Common.{length, ◌-◌}
use Rattle.age_format.specs.private.Scan.{IsScannedTo}
use Rattle.age_format.proofs.scan.scan_on.Given as goal

-- the bytes so far were scanned
abbrev pub invariant-loop-seen : goal.invariant-loop-seen
invariant-loop-seen l = IsScannedTo l.text l.seen l.place

abbrev pub decreases-loop-seen : goal.decreases-loop-seen
decreases-loop-seen l = length l.text - l.seen
