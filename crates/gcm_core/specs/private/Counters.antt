-- Counter blocks further on: a program on lists that private functions compute. No public clause cites
-- it, and nothing in it has to be believed.
use Rattle.std.specs.Prelude.{ℕ, zero, suc, List}
use Rattle.gcm_core.specs.Gcm.{inc32}

-- the counter block that is n blocks further on
unfoldable pub counter_after : ℕ → List ℕ → List ℕ
counter_after zero cb = cb
counter_after (suc n) cb = counter_after n (inc32 cb)
