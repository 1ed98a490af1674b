-- What is seen of a phase that sends: the connection and the random source that were lent to it.
use Rattle.std.specs.Prelude.{◌≡◌}
use Rattle.std.specs.Borrow.{MutBor}
use Rattle.age_core.specs.declared.plugin.connection.Connection.{Connection}
use Rattle.age_core.specs.declared.plugin.sending.UnidirSend.{UnidirSend}

-- the connection as it is
abbrev pub connection_of : {R W G : Type 0} → UnidirSend R W G → Connection R W
connection_of phase = phase.connection.now

-- the random source as it is
abbrev pub rng_of : {R W G : Type 0} → UnidirSend R W G → G
rng_of phase = phase.rng.now

-- these were lent to the phase
abbrev pub Holds : {R W G : Type 0} → UnidirSend R W G → MutBor (Connection R W) → MutBor G → Type 0
Holds phase connection rng = (phase.connection.ghost_name ≡ connection.ghost_name) × (phase.rng.ghost_name ≡ rng.ghost_name)

-- the same were lent to both
abbrev pub HoldSame : {R W G : Type 0} → UnidirSend R W G → UnidirSend R W G → Type 0
HoldSame before now = Holds now before.connection before.rng
