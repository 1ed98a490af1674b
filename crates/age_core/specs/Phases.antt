-- What a phase gives to its commands, and what they come to.
use Rattle.std.specs.Prelude.{◌≡◌, ◌≢◌, ℕ, Bool, true, false, not, List, [], ◌∷◌, filter, Option, Some, None, Result, Ok, Err, MatchResult, Vec}
use Rattle.std.specs.List.{AllByRecursion}
use Rattle.std.specs.Str.{bytes_eq}
use Rattle.std.specs.String.{string_bytes}
use Rattle.age_format.specs.declared.format.Stanza.{Stanza}

-- the tags of the four commands of a phase, of which the last two may be left out
pub record Commands : Type 0 where
  pub a : List ℕ
  pub b : List ℕ
  pub c : Option (List ℕ)
  pub d : Option (List ℕ)

-- whether a stanza has the tag of a command
abbrev pub is_command : Option (List ℕ) → Stanza → Bool
is_command None s = false
is_command (Some tag) s = bytes_eq (string_bytes s.tag) tag

-- the stanzas of a command, in order, and the others
abbrev pub with_command : Option (List ℕ) → List Stanza → List Stanza
with_command command stanzas = filter (is_command command) stanzas

abbrev pub without_command : Option (List ℕ) → List Stanza → List Stanza
without_command command stanzas = filter (λ s. not (is_command command s)) stanzas

-- what goes to each command: each stanza to the first whose tag it has
abbrev pub for_a : Commands → List Stanza → List Stanza
for_a tags stanzas = with_command (Some tags.a) stanzas

abbrev pub for_b : Commands → List Stanza → List Stanza
for_b tags stanzas = with_command (Some tags.b) (without_command (Some tags.a) stanzas)

abbrev pub for_c : Commands → List Stanza → List Stanza
for_c tags stanzas = with_command tags.c (without_command (Some tags.b) (without_command (Some tags.a) stanzas))

abbrev pub for_d : Commands → List Stanza → List Stanza
for_d tags stanzas = with_command tags.d (without_command tags.c (without_command (Some tags.b) (without_command (Some tags.a) stanzas)))

-- a closure's calls at these stanzas, one after another, gave these answers and left it so
abbrev pub Calls : {F A : Type 0} → (F → Stanza → A → F → Type 0) → F → List Stanza → List A → F → Type 0
Calls step f [] [] last = f ≡ last
Calls step f (s ∷ ss) (a ∷ more) last = (next : _) × step f s a next × Calls step next ss more last
Calls step f [] (a ∷ more) last = ⊥
Calls step f (s ∷ ss) [] last = ⊥

-- A closure may be called at any stanza of its command, in each state in which calls at such stanzas
-- leave it; that of a command that was left out need not be.
abbrev pub MayTake : {F A : Type 0} → (F → Stanza → Type 0) → (F → Stanza → A → F → Type 0) → Option (List ℕ) → F → Type 0
MayTake pre step command f = (taken : List Stanza) (answers : List _) (now : _) (next : Stanza) → Calls step f taken answers now
    → AllByRecursion (λ s. is_command command s ≡ true) (next ∷ taken) → pre now next

-- the values among answers, in order
abbrev pub values : {A E : Type 0} → List (Result A E) → List A
values [] = []
values ((Ok x) ∷ answers) = x ∷ values answers
values ((Err e) ∷ answers) = values answers

-- the errors among answers, in order
abbrev pub errors : {A E : Type 0} → List (Result A E) → List E
errors [] = []
errors ((Ok x) ∷ answers) = errors answers
errors ((Err e) ∷ answers) = e ∷ errors answers

-- what the answers of a command come to: their values, or where one is an error the errors alone
abbrev pub ComesTo : {A E Z : Type 0} → Result (Vec A Z) (Vec E Z) → List (Result A E) → Type 0
ComesTo outcome answers = MatchResult outcome (λ found. (errors answers ≡ []) × (found.items ≡ values answers)) (λ found. (errors answers ≢ []) × (found.items ≡ errors answers))

-- a command's closure took these stanzas, and its answers come to this
abbrev pub Ran : {F A E Z : Type 0} → (F → Stanza → Result A E → F → Type 0) → F → List Stanza → Result (Vec A Z) (Vec E Z) → F → Type 0
Ran step f stanzas outcome last = (answers : List (Result _ _)) × Calls step f stanzas answers last × ComesTo outcome answers

-- what a command answers: its closure took these stanzas
abbrev pub Answers : {F A E Z : Type 0} → (F → Stanza → Result A E → F → Type 0) → F → List Stanza → Result (Vec A Z) (Vec E Z) → Type 0
Answers step f stanzas outcome = (last : _) × Ran step f stanzas outcome last

-- the same of a command that may be left out, which then answers none
abbrev pub AnswersIfAsked : {F A E Z : Type 0} → (F → Stanza → Result A E → F → Type 0) → F → Option (List ℕ) → List Stanza → Option (Result (Vec A Z) (Vec E Z)) → Type 0
AnswersIfAsked step f None stanzas answer = answer ≡ None
AnswersIfAsked step f (Some tag) stanzas answer = (outcome : Result (Vec _ _) (Vec _ _)) × (answer ≡ Some outcome) × Answers step f stanzas outcome
