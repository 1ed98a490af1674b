use Rattle.std.proofs.Common.{◌++◌}
use Rattle.callers.proofs.sealed_records.reseal.Goals as goal

pub returns-clause-resealed : goal.returns-clause-resealed
returns-clause-resealed c = (
  c.open_in_place.new.buf,
  (c.opens_what_was_sealed.ensures c.args.old_key.now c.args.nonce.now c.args.aad.now c.open_in_place.new.buf (c.args.sealed.now ++ c.args.tag.now)).0
      (rw c.new.ensures at c.in_ok-open_in_place.ensures.opened),
  rw c.«new-2».ensures at c.in-Ok.ensures.sealed,
)
