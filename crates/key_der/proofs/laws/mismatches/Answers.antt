use Rattle.std.proofs.Common.{refl}
use Rattle.key_der.specs.Reading.{mismatch}
use Rattle.key_der.proofs.Differences.{mismatch-append, mismatch-none}
use Rattle.key_der.proofs.laws.mismatches.Goals as goal

pub returns : goal.returns
unfolding mismatch
returns c = record {
  fits = mismatch-append;
  whole = mismatch-none;
  first = refl;
  last = refl;
  empty = refl;
  within = refl;
  no_key = refl;
  longer = refl;
  same = refl;
}
