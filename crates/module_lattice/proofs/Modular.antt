-- Sums and products modulo q.
use Rattle.std.proofs.Common.{◌≡◌, ℕ, ◌+◌, ◌-◌, ◌*◌, ◌%◌, ap, ◌∙◌, sym}
use Rattle.std.proofs.Math.Nat.{add-mod, add-mod-mod, mod-add-mod, add_assoc, mul_assoc, mul-add}
use Rattle.std.proofs.lemmas.Nat.{mul-mod_first, mul-mod_second}
use Rattle.module_lattice.specs.Ring.{plus, minus, negated, times}

pub plus-assoc : (q a b c : ℕ) → plus q (plus q a b) c ≡ plus q a (plus q b c)
plus-assoc q a b c = mod-add-mod (a + b) q c ∙ ap (λ n. n % q) (add_assoc a b c) ∙ sym (add-mod-mod a (b + c) q)

pub times-assoc : (q a b c : ℕ) → times q (times q a b) c ≡ times q a (times q b c)
times-assoc q a b c = mul-mod_first (a * b) c q ∙ ap (λ n. n % q) (mul_assoc a b c) ∙ sym (mul-mod_second a (b * c) q)

pub times-plus : (q a b c : ℕ) → times q a (plus q b c) ≡ plus q (times q a b) (times q a c)
times-plus q a b c = mul-mod_second a (b + c) q ∙ ap (λ n. n % q) (mul-add a b c) ∙ add-mod (a * b) (a * c) q

pub minus-negated : (q a b : ℕ) → minus q a b ≡ plus q a (negated q b)
minus-negated q a b = sym (add-mod-mod a (q - b) q)
