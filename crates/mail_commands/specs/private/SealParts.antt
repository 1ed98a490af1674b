-- The parts of the input of `seal`.
use Rattle.std.specs.Prelude.{◌≡◌, ℕ, List, ◌++◌}
use Rattle.mail_commands.specs.Input.{IsLine, IsLineText, IsInfoLine, IsMessages, most_info_digits, most_messages, source_digits}

-- one of the first kind, and then one of the second
abbrev pub Then : (List ℕ → Type 0) → (List ℕ → Type 0) → List ℕ → Type 0
Then A B text = (a b : List ℕ) × (text ≡ a ++ b) × A a × B b

-- the lines of so many messages at most, whatever they are
abbrev pub Tail : ℕ → List ℕ → Type 0
Tail most text = (messages : List (List ℕ)) × IsMessages most text messages

-- from the line of the random source on
abbrev pub FromSource : List ℕ → Type 0
FromSource text = Then (IsLineText source_digits source_digits) (Tail most_messages) text

-- from the line of the info on
abbrev pub FromInfo : List ℕ → Type 0
FromInfo text = Then (IsLineText 0 most_info_digits) FromSource text

-- the same, with what it holds
abbrev pub HoldsFromSource : List ℕ → List ℕ → List (List ℕ) → Type 0
HoldsFromSource text source messages = (third others : List ℕ) × (text ≡ third ++ others) × IsLine source_digits source_digits third source × IsMessages most_messages others messages

abbrev pub HoldsFromInfo : List ℕ → List ℕ → List ℕ → List (List ℕ) → Type 0
HoldsFromInfo text info source messages = (second rest : List ℕ) × (text ≡ second ++ rest) × IsInfoLine second info × HoldsFromSource rest source messages
