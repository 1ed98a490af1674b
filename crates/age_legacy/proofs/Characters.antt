-- The 64 characters, by their ranges and by their numbers.
use Rattle.std.proofs.Common.{◌≡◌, ℕ, ◌<◌, Bool, true, Option, Some, None, refl, subst}
use Rattle.std.specs.Prelude.{◌==◌, ◌&&◌, ◌||◌, nat_le, is_some, position, slice_index}
use Rattle.std.proofs.lemmas.Bool.{agree_below_at, eqb-true}
use Rattle.std.proofs.lemmas.List.Quantifiers.{position-Some}
use Rattle.age_format.specs.Stanza.{alphabet}
use Rattle.age_format.specs.Front.{IsCharacter}
use Rattle.age_legacy.specs.Legacy.{is_character}

abbrev pub is_ranged : ℕ → Bool
is_ranged b = (nat_le 65 b && nat_le b 90) || ((nat_le 97 b && nat_le b 122) || ((nat_le 48 b && nat_le b 57) || (b == 43 || b == 47)))

pub ranged_character : (b : ℕ) → b < 256 → is_ranged b ≡ is_character b
unfolding is_character
ranged_character b lt = agree_below_at is_ranged is_character 256 b refl lt

found_at : (found : Option ℕ) → is_some found ≡ true → (i : ℕ) × (found ≡ Some i)
found_at None e = absurd cc
found_at (Some i) e = (i, refl)

pub character_numbered : (b : ℕ) → is_character b ≡ true → IsCharacter b
unfolding is_character
character_numbered b e =
    let found = found_at (position (λ c. c == b) alphabet) e in
    let at = position-Some (λ c. c == b) alphabet found.0 0 found.1 in
    (found.0, at.0, eqb-true _ _ at.1)

pub numbered_character : (b : ℕ) → IsCharacter b → is_character b ≡ true
unfolding is_character
numbered_character b h = subst (λ (c : ℕ). is_character c ≡ true) h.2 (agree_below_at (λ k. is_character (slice_index alphabet k)) (λ k. true) 64 h.0 refl h.1)
