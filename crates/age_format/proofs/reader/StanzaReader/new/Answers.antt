use Rattle.std.proofs.Common.{drop, arith}
use Rattle.age_format.proofs.Looks.{nothing_scanned}
use Rattle.age_format.proofs.reader.StanzaReader.new.Goals as goal

pub invariant_of-result : goal.invariant_of-result
invariant_of-result c = record {
  given_within = omega arith;
  engine_is = c.engine.ensures;
  seen_is = nothing_scanned (drop 0 c.new.result.items);
}
