use Rattle.age_format.proofs.Receipts.{reads_done, reads_invalid, reads_ended, reads_spent, taken_no_done}
use Rattle.age_format.proofs.laws.receiving_is_reading.Goals as goal

pub returns-clause-before_done : goal.returns-clause-before_done
returns-clause-before_done c = reads_done

pub returns-clause-invalid_data : goal.returns-clause-invalid_data
returns-clause-invalid_data c = reads_invalid

pub returns-clause-unexpected_eof : goal.returns-clause-unexpected_eof
returns-clause-unexpected_eof c = reads_ended

pub returns-clause-too_much : goal.returns-clause-too_much
returns-clause-too_much c = reads_spent

pub returns-clause-read_fault : goal.returns-clause-read_fault
returns-clause-read_fault c = taken_no_done
