use Rattle.std.proofs.Common.{ℕ, sym, ap, ◌∙◌}
use Rattle.std.specs.Prelude.{◌==◌}
use Rattle.std.specs.List.{position_or_len}
use Rattle.bech32_long.specs.Text.{alphabet, value_of}
use Rattle.bech32_long.proofs.Characters.{position-found, position-missed}
use Rattle.bech32_long.proofs.text.value_of.Goals as goal

pub returns-in-Some-clause-value : goal.returns-in-Some-clause-value
unfolding value_of
returns-in-Some-clause-value c =
    (position-found (λ (a : ℕ). a == c.to_ascii_lowercase.result) alphabet c.in-Some.value (sym c.in-Some.ensures)).0
    ∙ ap (λ (low : ℕ). position_or_len (λ (a : ℕ). a == low) alphabet) c.to_ascii_lowercase.ensures.value

pub returns-in-None-clause-value : goal.returns-in-None-clause-value
unfolding value_of
returns-in-None-clause-value c =
    sym (position-missed (λ (a : ℕ). a == c.to_ascii_lowercase.result) alphabet (sym c.in-None.ensures))
    ∙ ap (λ (low : ℕ). position_or_len (λ (a : ℕ). a == low) alphabet) c.to_ascii_lowercase.ensures.value
