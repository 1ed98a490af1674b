use Rattle.std.proofs.Common.{◌≡◌, ℕ, List, [], ◌∷◌, ◌++◌, length, refl, sym, ap, ◌∙◌, arith}
use Rattle.sha3.specs.Sha3.{shake256}
use Rattle.callers.proofs.derived_keys.derived_keys.Goals as goal

nothing : (xs : List ℕ) → length xs ≡ 0 → xs ≡ []
nothing [] none = refl
nothing (x ∷ xs) none = absurd (omega (arith, none))

pub returns : goal.returns
returns c =
    let m : List ℕ = c.args.secret.now ++ c.args.label.now in
    let first : List ℕ = c.read.new.buffer in
    let second : List ℕ = c.read-2.new.buffer in
    let gave = c.finalize_xof-output.ensures m (c.update-2.ensures c.args.secret.now (c.update.ensures [] c.new-function.ensures)) in
    ap (λ (t : List ℕ). (t ++ first) ++ second) (sym (nothing (shake256 m 0) (c.lengths.ensures.shake256 m 0)))
    ∙ ap (λ (t : List ℕ). t ++ second) (sym (c.read.ensures.output m 0 gave))
    ∙ sym (c.read-2.ensures.output m 32 (c.read.ensures.gave m 0 gave))
