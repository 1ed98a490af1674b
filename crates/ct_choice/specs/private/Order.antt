-- The laws of `<` on numbers, which the `impl`s of the orders cite: proofs, and no definitions.
use Rattle.std.specs.Prelude.{ℕ, ◌≡◌, false, true, nat_lt}
use Rattle.std.proofs.Common.{arith}
use Rattle.std.proofs.lemmas.Bool.Decides.{nat_tests}

pub nat_lt-irreflexive : (a : ℕ) → nat_lt a a ≡ false
nat_lt-irreflexive a = grind (arith, nat_tests)

pub nat_lt-transitive : (a b c : ℕ) → nat_lt a b ≡ true → nat_lt b c ≡ true → nat_lt a c ≡ true
nat_lt-transitive a b c p q = grind (arith, nat_tests)
