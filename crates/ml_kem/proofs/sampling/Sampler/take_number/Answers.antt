use Rattle.std.proofs.Common.{ℕ, ◌+◌, sym, ◌∙◌, arith, ap, length, take}
use Rattle.std.proofs.Math.ListN.{set}
use Rattle.std.proofs.lemmas.List.{length-take-le}
use Rattle.ml_kem.proofs.Taken.{full-left, number-passed, number-taken}
use Rattle.ml_kem.proofs.sampling.Sampler.take_number.Goals.{then-d-lt-Q, else-d-lt-Q}
use Rattle.ml_kem.proofs.sampling.Sampler.take_number.Goals as goal

pub returns-after-d-lt-Q : goal.returns-after-d-lt-Q
returns-after-d-lt-Q c =
    let values = c.self.inside.values in
    let count = c.self.inside.count in
    elim c.if-d-lt-Q.branch [
      | then-d-lt-Q w ↦
          ap (λ (p : ℕ × ℕ). take (count + p.1) (set values count p.0)) w.value-is
          ∙ rw (← c.self.view_is) (number-taken values count c.args.d (omega arith) c.if-self-lt-DEGREE.true w.if-d-lt-Q.true)
      | else-d-lt-Q w ↦
          ap (λ (p : ℕ × ℕ). take (count + p.1) (set values count p.0)) w.value-is
          ∙ rw (← c.self.view_is) (number-passed values count c.args.d (omega arith) (omega (arith, w.if-d-lt-Q.false)))
    ]

pub returns-else-self-lt-DEGREE : goal.returns-else-self-lt-DEGREE
returns-else-self-lt-DEGREE c =
    let size = ap length (sym c.self.view_is) ∙ length-take-le c.self.inside.count c.self.inside.values (omega arith) in
    full-left c.args.self.now _ (omega arith)
