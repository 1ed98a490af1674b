use Rattle.std.proofs.Common.{◌≡◌, ℕ, List, [], ◌∷◌, map, sym, subst, ◌∙◌}
use Rattle.std.specs.Prelude.{codes, IfNone, IfSome}
use Rattle.std.specs.String.{string_bytes}
use Rattle.mail_commands.specs.Command.{Spells}
use Rattle.mail_commands.specs.declared.command.Command.{Command}
use Rattle.mail_commands.proofs.Commands.{two_words, four_words, five_words, named}
use Rattle.mail_commands.proofs.command.command_of.Goals as goal

pub returns-in-len2-clause-found : goal.returns-in-len2-clause-found
returns-in-len2-clause-found c =
    let words = map string_bytes c.args.words.now in
    let views : words ≡ string_bytes c.name-item.result ∷ string_bytes c.set-item.result ∷ [] =
    two_words string_bytes c.args.words.now c.name-item.result c.set-item.result c.in-len2.len_at_least c.in-len2.len_below c.name-item.is c.set-item.is in
    let is = named words (string_bytes c.name-item.result) (codes "key") (string_bytes c.set-item.result ∷ []) views (rw c.as_str.ensures.value at (sym c.eq.ensures ∙ c.if-eq.true)) in
    subst (λ (ws : List (List ℕ)). IfSome c.key_command.result (λ command. Spells ws command)) is (rw c.as_str-in-len2.ensures.value at c.key_command.ensures.found)

pub returns-in-len4-clause-found : goal.returns-in-len4-clause-found
returns-in-len4-clause-found c =
    let words = map string_bytes c.args.words.now in
    let views = four_words string_bytes c.args.words.now c.name-item-then-words-lt5.result c.set-item-then-words-lt5.result c.kdf-item.result c.aead-item.result c.in-len4.len_at_least c.in-len4.len_below
    c.name-item-then-words-lt5.is c.set-item-then-words-lt5.is c.kdf-item.is c.aead-item.is in
    let is = named words (string_bytes c.name-item-then-words-lt5.result) (codes "seal") _ views (rw c.as_str-then-words-lt5.ensures.value at (sym c.eq-then-words-lt5.ensures ∙ c.if-eq-3.true)) in
    subst (λ (ws : List (List ℕ)). IfSome c.seal_command.result (λ command. Spells ws command)) is
    (rw (c.as_str-in-len4.ensures.value, c.as_str-in-len4-2.ensures.value, c.as_str-in-len4-3.ensures.value) at c.seal_command.ensures.found)

pub returns-in-len4-clause-none : goal.returns-in-len4-clause-none
returns-in-len4-clause-none c =
    let words = map string_bytes c.args.words.now in
    let views = four_words string_bytes c.args.words.now c.name-item-then-words-lt5.result c.set-item-then-words-lt5.result c.kdf-item.result c.aead-item.result c.in-len4.len_at_least c.in-len4.len_below
    c.name-item-then-words-lt5.is c.set-item-then-words-lt5.is c.kdf-item.is c.aead-item.is in
    let is = named words (string_bytes c.name-item-then-words-lt5.result) (codes "seal") _ views (rw c.as_str-then-words-lt5.ensures.value at (sym c.eq-then-words-lt5.ensures ∙ c.if-eq-3.true)) in
    subst (λ (ws : List (List ℕ)). IfNone c.seal_command.result ((command : Command) → Spells ws command → ⊥)) is
    (rw (c.as_str-in-len4.ensures.value, c.as_str-in-len4-2.ensures.value, c.as_str-in-len4-3.ensures.value) at c.seal_command.ensures.none)

pub returns-in-len5-clause-found : goal.returns-in-len5-clause-found
returns-in-len5-clause-found c =
    let words = map string_bytes c.args.words.now in
    let views = five_words string_bytes c.args.words.now c.name-item-then-words-lt6.result c.set-item-then-words-lt6.result c.kdf-item-then-words-lt6.result c.aead-item-then-words-lt6.result c.budget-item.result c.in-len5.len_at_least c.in-len5.len_below
    c.name-item-then-words-lt6.is c.set-item-then-words-lt6.is c.kdf-item-then-words-lt6.is c.aead-item-then-words-lt6.is c.budget-item.is in
    let is = named words (string_bytes c.name-item-then-words-lt6.result) (codes "open") _ views (rw c.as_str-then-words-lt6.ensures.value at (sym c.eq-then-words-lt6.ensures ∙ c.if-eq-4.true)) in
    subst (λ (ws : List (List ℕ)). IfSome c.open_command.result (λ command. Spells ws command)) is
    (rw (c.as_str-in-len5.ensures.value, c.as_str-in-len5-2.ensures.value, c.as_str-in-len5-3.ensures.value, c.as_str-in-len5-4.ensures.value) at c.open_command.ensures.found)

pub returns-in-len5-clause-none : goal.returns-in-len5-clause-none
returns-in-len5-clause-none c =
    let words = map string_bytes c.args.words.now in
    let views = five_words string_bytes c.args.words.now c.name-item-then-words-lt6.result c.set-item-then-words-lt6.result c.kdf-item-then-words-lt6.result c.aead-item-then-words-lt6.result c.budget-item.result c.in-len5.len_at_least c.in-len5.len_below
    c.name-item-then-words-lt6.is c.set-item-then-words-lt6.is c.kdf-item-then-words-lt6.is c.aead-item-then-words-lt6.is c.budget-item.is in
    let is = named words (string_bytes c.name-item-then-words-lt6.result) (codes "open") _ views (rw c.as_str-then-words-lt6.ensures.value at (sym c.eq-then-words-lt6.ensures ∙ c.if-eq-4.true)) in
    subst (λ (ws : List (List ℕ)). IfNone c.open_command.result ((command : Command) → Spells ws command → ⊥)) is
    (rw (c.as_str-in-len5.ensures.value, c.as_str-in-len5-2.ensures.value, c.as_str-in-len5-3.ensures.value, c.as_str-in-len5-4.ensures.value) at c.open_command.ensures.none)

pub returns-in-len2-2-clause-found : goal.returns-in-len2-2-clause-found
returns-in-len2-2-clause-found c =
    let words = map string_bytes c.args.words.now in
    let views : words ≡ string_bytes c.name-item-then-words-lt3.result ∷ string_bytes c.count-item.result ∷ [] =
    two_words string_bytes c.args.words.now c.name-item-then-words-lt3.result c.count-item.result c.in-len2.len_at_least c.in-len2.len_below c.name-item-then-words-lt3.is c.count-item.is in
    let is = named words (string_bytes c.name-item-then-words-lt3.result) (codes "gen") (string_bytes c.count-item.result ∷ []) views (rw c.as_str-then-words-lt3.ensures.value at (sym c.eq-then-words-lt3.ensures ∙ c.if-eq-2.true)) in
    subst (λ (ws : List (List ℕ)). IfSome c.gen_command.result (λ command. Spells ws command)) is (rw c.as_str-in-len2-2.ensures.value at c.gen_command.ensures.found)
