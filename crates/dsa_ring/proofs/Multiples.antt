-- A list that a loop multiplied number by number.
use Rattle.std.proofs.Common.{◌≡◌, ℕ, ◌<◌, List, length, get_or, sym, ◌∙◌, arith}
use Rattle.std.proofs.lemmas.List.{ext_get_or, get_or-map, length-map}
use Rattle.module_lattice.specs.Ring.{multiple, times}

pub all-multiplied : (a : ℕ) (f out : List ℕ) → length f ≡ 256 → length out ≡ 256
    → ((k : ℕ) → k < 256 → get_or out k 0 ≡ times 8380417 a (get_or f k 0)) → out ≡ multiple 8380417 a f
all-multiplied a f out long long2 made =
    ext_get_or 0 out (multiple 8380417 a f) (long2 ∙ sym (length-map f (times 8380417 a) ∙ long))
    (λ k inside.
    made k (omega (arith, inside, long2))
    ∙ sym (get_or-map (times 8380417 a) f k 0 0 (omega (arith, inside, long, long2))))
