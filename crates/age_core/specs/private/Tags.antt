-- The tags of a phase's commands as they lie in memory. No public clause cites it.
use Rattle.std.specs.Option.{option_copied}
use Rattle.age_core.specs.declared.plugin.unidir.Tags.{Tags}
use Rattle.age_core.specs.Phases.{Commands}

abbrev pub commands_of : Tags → Commands
commands_of tags = record { a = tags.a.now; b = tags.b.now; c = option_copied tags.c; d = option_copied tags.d }
