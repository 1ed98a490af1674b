use Rattle.std.proofs.Common.{◌≡◌, ◌-◌, ℕ, List, map}
use Rattle.std.specs.Prelude.{IfOk}
use Rattle.std.specs.String.{string_bytes}
use Rattle.age_send.specs.Grease.{drawn_string}
use Rattle.age_send.proofs.Draws.{Drawing}
use Rattle.age_send.proofs.grease.draw_arguments.Given as goal

-- the strings so far were drawn, and those are they that there was memory for
abbrev pub invariant-loop : goal.invariant-loop
invariant-loop g l =
    let rng = g.R.Rng in
    (got : List (List ℕ)) × Drawing drawn_string l.count (rng.stream l.initial.rng) got (l.count - l.counter) (rng.stream l.rng)
    × IfOk l.strings (λ strings. map string_bytes strings.items ≡ got)
