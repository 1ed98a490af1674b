use Rattle.std.proofs.Common.{ℕ, List, subst}
use Rattle.ml_kem.specs.Answers.{Answers}
use Rattle.decryption_noise.proofs.Results.{inside-of}
use Rattle.decryption_noise.proofs.laws.decapsulate_answers_the_shared_key.Goals as goal

pub returns : goal.returns
returns c set family seed m d shared key answer is there bytes made inside answers =
    subst (Answers (λ (k : List ℕ). k) answer) (inside-of set family seed m d shared key is there bytes made inside) answers
