use Rattle.std.proofs.Common.{◌≡◌, ◌++◌, ℕ, ◌<◌, List, length, ap, arith}
use Rattle.std.specs.Prelude.{codes}
use Rattle.std.proofs.lemmas.List.{length-append}
use Rattle.age_send.proofs.laws.grease_tags.Goals as goal

-- the tag is longer
longer : (tag front other : List ℕ) → tag ≡ front ++ codes "-grease" → length other < 7 → tag ≡ other → ⊥
longer tag front other is short same = omega (arith, length-append front (codes "-grease"), ap length is, ap length same)

pub returns-clause-done : goal.returns-clause-done
returns-clause-done c s is same = longer s.tag is.0 (codes "done") is.1 (omega arith) same

pub returns-clause-kem : goal.returns-clause-kem
returns-clause-kem c s is same = longer s.tag is.0 (codes "kem") is.1 (omega arith) same

pub returns-clause-msg : goal.returns-clause-msg
returns-clause-msg c s is same = longer s.tag is.0 (codes "msg") is.1 (omega arith) same
