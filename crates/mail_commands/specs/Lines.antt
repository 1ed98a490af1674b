-- The line of why a run wrote no items.
use Rattle.std.specs.Prelude.{ℕ, List, [], ◌∷◌, ◌++◌, codes}
use Rattle.output_lines.specs.Lines.{fault_line}
use Rattle.kem_mail.specs.declared.error.MailError.TheVariants.{NoMemory, XofExhausted, ReadFault, InvalidData, UnexpectedEof, TooMuch, NotOneKem, IncorrectInputLength, OpenError}
use Rattle.mail_commands.specs.declared.error.RunError.{RunError}
use Rattle.mail_commands.specs.declared.error.RunError.TheVariants.{Place, Ended, InvalidKey, Mail}

-- the line of why a run wrote no items, by the word of its input; of want of memory and of a fault of the
-- source there is none
abbrev pub error_line : List ℕ → RunError → List ℕ
error_line input (Place place) = fault_line input (place ∷ [])
error_line input Ended = fault_line (input ++ codes " ended") []
error_line input InvalidKey = fault_line (codes "InvalidKey") []
error_line input (Mail NoMemory) = []
error_line input (Mail ReadFault) = []
error_line input (Mail XofExhausted) = fault_line (codes "XofExhausted") []
error_line input (Mail InvalidData) = fault_line (codes "InvalidData") []
error_line input (Mail UnexpectedEof) = fault_line (codes "UnexpectedEof") []
error_line input (Mail TooMuch) = fault_line (codes "TooMuch") []
error_line input (Mail (NotOneKem count)) = fault_line (codes "NotOneKem") (count ∷ [])
error_line input (Mail (IncorrectInputLength expected given)) = fault_line (codes "IncorrectInputLength") (expected ∷ given ∷ [])
error_line input (Mail (OpenError number)) = fault_line (codes "OpenError") (number ∷ [])

-- the line of words that spell no command
abbrev pub no_command_line : List ℕ
no_command_line = fault_line (codes "words") []
