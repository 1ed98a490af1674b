-- What is seen of a reply that is owed: the connection that it goes to.
use Rattle.std.specs.Borrow.{MutBor}
use Rattle.age_core.specs.declared.plugin.connection.Connection.{Connection}
use Rattle.age_core.specs.declared.plugin.reply.Reply.{Reply}

abbrev pub connection_of : {R W : Type 0} → Reply R W → MutBor (Connection R W)
connection_of reply = reply.connection
