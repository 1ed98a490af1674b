-- What is seen of a connection: its source, its sink, and what its reader holds.
use Rattle.age_format.specs.Receiving.{Held}
use Rattle.age_core.specs.declared.plugin.connection.Connection.{Connection}

abbrev pub source_of : {R W : Type 0} → Connection R W → R
source_of connection = connection.source

abbrev pub sink_of : {R W : Type 0} → Connection R W → W
sink_of connection = connection.sink

abbrev pub held_by : {R W : Type 0} → Connection R W → Held
held_by connection = connection.reader
