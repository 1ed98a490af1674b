-- What an option is once a reference to its value has been given back.
use Rattle.std.specs.Borrow.{Lends, MutBor, Fml}
use Rattle.ctutils.specs.declared.ct_option.CtOption.{CtOption}
use Rattle.ctutils.specs.contracts.ct_option.CtOption.{the_row}
use Rattle.ctutils.specs.Options.{some_of}
use denote.RattleType.{RattleType}

module _ (T : RattleType) (o : MutBor (CtOption T.Denot)) where
  -- the option ends as a some of what the reference ends as
  abbrev pub LendsSomeOf : MutBor T.Denot → Fml
  LendsSomeOf r = Lends (the_row T) T o r some_of

  -- the option keeps its choice, over what the reference ends as
  abbrev pub LendsValue : MutBor T.Denot → Fml
  LendsValue r = Lends (the_row T) T o r (λ w. record o.now { value = w })
