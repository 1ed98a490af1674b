use Rattle.std.proofs.Common.{◌≡◌, ℕ, List, ◌+◌, subst, arith}
use Rattle.age_format.specs.Reading.{Reading, Reads, Before_done, Invalid_data, Unexpected_eof, Too_much}
use Rattle.age_format.specs.Receiving.{fresh}
use Rattle.age_format.proofs.Receipts.{reads_done, reads_invalid, reads_ended, reads_spent}
use Rattle.age_format.proofs.laws.receiving_from_fresh_is_reading.Goals as goal

-- nothing was held
from_fresh : (text : List ℕ) (budget : ℕ) (reading : Reading) → Reads text (budget + 0) reading → Reads text budget reading
from_fresh text budget reading h = let same : budget + 0 ≡ budget = omega arith in subst (λ (n : ℕ). Reads text n reading) same h

pub returns-clause-before_done : goal.returns-clause-before_done
returns-clause-before_done c budget now text left stanzas last r none done = from_fresh text budget (Before_done stanzas) (reads_done (fresh budget) now text left stanzas last r none done)

pub returns-clause-invalid_data : goal.returns-clause-invalid_data
returns-clause-invalid_data c budget now text left stanzas r none bad = from_fresh text budget Invalid_data (reads_invalid (fresh budget) now text left stanzas r none bad)

pub returns-clause-unexpected_eof : goal.returns-clause-unexpected_eof
returns-clause-unexpected_eof c budget now text left stanzas r none front some ended = from_fresh text budget Unexpected_eof (reads_ended (fresh budget) now text left stanzas r none front some ended)

pub returns-clause-too_much : goal.returns-clause-too_much
returns-clause-too_much c budget now text left stanzas r none front spent = from_fresh text budget Too_much (reads_spent (fresh budget) now text left stanzas r none front spent)
