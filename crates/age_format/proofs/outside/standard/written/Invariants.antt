use Rattle.std.specs.Io.KnownBytes.{Keeps}
use Rattle.age_format.proofs.outside.standard.written.Given as goal

-- the calls that were interrupted changed nothing
abbrev pub invariant-loop : goal.invariant-loop
invariant-loop g l = Keeps (g.W.Write.contents l.fn.writer) (g.W.Write.contents l.writer)
