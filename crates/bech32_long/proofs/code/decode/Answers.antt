use Rattle.std.proofs.Common.{◌≡◌, ℕ, ◌+◌, ◌-◌, List, length, take, drop, map, not, sym, ap, ◌∙◌}
use Rattle.std.specs.Prelude.{position}
use Rattle.std.proofs.lemmas.List.{take_rest}
use Rattle.bech32_long.specs.Text.{checked, is_character, reading, value_of}
use Rattle.bech32_long.proofs.Characters.{none_bad}
use Rattle.bech32_long.proofs.Texts.{Separated, not_separated, separated, reading-bad, reading-mixed, reading-none, reading-part, reading-rest}
use Rattle.bech32_long.proofs.code.decode.Goals as goal

pub returns-in_default-clause-refused : goal.returns-in_default-clause-refused
returns-in_default-clause-refused c =
    let text : List ℕ = c.as_bytes-text.result.now in
    ap reading (sym c.as_bytes-text.ensures.value) ∙ reading-none text (not_separated text c.in_default.ensures.none)

pub returns-in_default-from_bytes-clause-refused : goal.returns-in_default-from_bytes-clause-refused
returns-in_default-from_bytes-clause-refused c =
    let text : List ℕ = c.as_bytes-text.result.now in
    let at : ℕ = c.in-Some.at in
    let s : Separated text at = separated text at c.in-Some.ensures.found.0 c.in-Some.ensures.found.1 c.in-Some.ensures.last in
    ap reading (sym c.as_bytes-text.ensures.value) ∙ reading-part text at s c.in_default-from_bytes.ensures

pub returns-then-is_mixed-clause-refused : goal.returns-then-is_mixed-clause-refused
returns-then-is_mixed-clause-refused c =
    let text : List ℕ = c.as_bytes-text.result.now in
    let at : ℕ = c.in-Some.at in
    let s : Separated text at = separated text at c.in-Some.ensures.found.0 c.in-Some.ensures.found.1 c.in-Some.ensures.last in
    ap reading (sym c.as_bytes-text.ensures.value) ∙ reading-mixed text at s c.in-Ok.ensures.0 (sym c.is_mixed.ensures ∙ c.if-is_mixed.true)

pub returns-in-Some-first_bad-clause-refused : goal.returns-in-Some-first_bad-clause-refused
returns-in-Some-first_bad-clause-refused c =
    let text : List ℕ = c.as_bytes-text.result.now in
    let at : ℕ = c.in-Some.at in
    let s : Separated text at = separated text at c.in-Some.ensures.found.0 c.in-Some.ensures.found.1 c.in-Some.ensures.last in
    ap reading (sym c.as_bytes-text.ensures.value)
    ∙ reading-bad text at s c.in-Ok.ensures.0 (sym c.is_mixed.ensures ∙ c.if-is_mixed.false) c.in-Some-first_bad.place
    (ap (position (λ (b : ℕ). not (is_character b))) (sym (take_rest text (at + 1))) ∙ sym c.first_bad.ensures ∙ c.in-Some-first_bad.is)

pub read_characters-requires : goal.read_characters-requires
read_characters-requires c =
    let text : List ℕ = c.as_bytes-text.result.now in
    none_bad is_character (take (length text - (c.in-Some.at + 1)) (drop (c.in-Some.at + 1) text)) (sym c.first_bad.ensures ∙ c.in_default-first_bad.is)

pub returns-clause-read : goal.returns-clause-read
returns-clause-read c =
    let text : List ℕ = c.as_bytes-text.result.now in
    let at : ℕ = c.in-Some.at in
    let s : Separated text at = separated text at c.in-Some.ensures.found.0 c.in-Some.ensures.found.1 c.in-Some.ensures.last in
    let characters : List ℕ = take (length text - (at + 1)) (drop (at + 1) text) in
    let is : reading c.args.text.now ≡ checked c.in-Ok.hrp (map value_of characters) =
    ap reading (sym c.as_bytes-text.ensures.value)
    ∙ reading-rest text at s characters c.in-Ok.hrp (take_rest text (at + 1)) c.in-Ok.ensures.1 c.in-Ok.ensures.0 (sym c.is_mixed.ensures ∙ c.if-is_mixed.false)
    (sym c.first_bad.ensures ∙ c.in_default-first_bad.is) in
    rw is c.read_characters.ensures.read

pub returns-clause-refused : goal.returns-clause-refused
returns-clause-refused c =
    let text : List ℕ = c.as_bytes-text.result.now in
    let at : ℕ = c.in-Some.at in
    let s : Separated text at = separated text at c.in-Some.ensures.found.0 c.in-Some.ensures.found.1 c.in-Some.ensures.last in
    let characters : List ℕ = take (length text - (at + 1)) (drop (at + 1) text) in
    let is : reading c.args.text.now ≡ checked c.in-Ok.hrp (map value_of characters) =
    ap reading (sym c.as_bytes-text.ensures.value)
    ∙ reading-rest text at s characters c.in-Ok.hrp (take_rest text (at + 1)) c.in-Ok.ensures.1 c.in-Ok.ensures.0 (sym c.is_mixed.ensures ∙ c.if-is_mixed.false)
    (sym c.first_bad.ensures ∙ c.in_default-first_bad.is) in
    rw is c.read_characters.ensures.refused
