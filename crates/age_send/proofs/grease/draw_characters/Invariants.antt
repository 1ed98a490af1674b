use Rattle.std.proofs.Common.{◌≡◌, ◌-◌, length, take}
use Rattle.std.specs.List.{AllByRecursion}
use Rattle.age_format.specs.Stanza.{IsVisible}
use Rattle.age_send.specs.Grease.{drawn_number}
use Rattle.age_send.proofs.Draws.{Drawing}
use Rattle.age_send.proofs.grease.draw_characters.Given as goal

-- the characters so far were drawn
abbrev pub invariant-loop-character : goal.invariant-loop-character
invariant-loop-character g l =
    let rng = g.R.Rng in
    Drawing (drawn_number 33 126) (length l.fn.buffer) (rng.stream l.fn.rng) (take l.character-index l.buffer) (length l.fn.buffer - l.character-index) (rng.stream l.rng)
    × AllByRecursion IsVisible (take l.character-index l.buffer)
    × (length l.buffer ≡ length l.fn.buffer)
