use Rattle.std.specs.Io.KnownBytes.{Keeps}
use Rattle.age_format.proofs.outside.standard.given.Given as goal

-- the calls that were interrupted took nothing
abbrev pub invariant-loop : goal.invariant-loop
invariant-loop g l = Keeps (g.R.Read.remaining l.fn.reader) (g.R.Read.remaining l.reader)
