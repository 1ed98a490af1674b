use Rattle.std.proofs.Common.{refl}
use Rattle.std.specs.Fmt.{digits}
use Rattle.mail_commands.proofs.laws.worked_words.Goals as goal

pub returns-clause-smallest : goal.returns-clause-smallest
unfolding digits
returns-clause-smallest c = refl

pub returns-clause-middle : goal.returns-clause-middle
unfolding digits
returns-clause-middle c = refl

pub returns-clause-greatest : goal.returns-clause-greatest
unfolding digits
returns-clause-greatest c = refl

pub returns-clause-greatest_gen : goal.returns-clause-greatest_gen
unfolding digits
returns-clause-greatest_gen c = refl

pub returns-clause-smallest_gen : goal.returns-clause-smallest_gen
unfolding digits
returns-clause-smallest_gen c = refl
