-- What an outcome is written as.
use Rattle.std.specs.Prelude.{ℕ, List, Ok, Err}
use Rattle.output_lines.specs.Lines.{lines}
use Rattle.mail_commands.specs.Command.{input_word}
use Rattle.mail_commands.specs.Due.{Outcome}
use Rattle.mail_commands.specs.Lines.{error_line}
use Rattle.mail_commands.specs.declared.command.Command.{Command}

-- the output of an outcome whose items are written as lines
abbrev pub lines_output : Command → Outcome → List ℕ
lines_output command (Ok items) = lines items
lines_output command (Err error) = error_line (input_word command) error
