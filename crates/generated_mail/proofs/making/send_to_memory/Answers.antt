use Rattle.std.proofs.Common.{ℕ, List, [], Err, ap, sym, subst}
use Rattle.std.specs.Prelude.{All, length, ◌≤◌}
use Rattle.ml_kem.specs.Parameters.{ml_kem_768}
use Rattle.generated_mail.specs.Made.{aes_256_gcm, hkdf_sha256}
use Rattle.generated_mail.proofs.Messages.{all_short}
use Rattle.generated_mail.proofs.Sealed.{never_unsealed}
use Rattle.generated_mail.proofs.making.send_to_memory.Goals as goal

pub refusal_of-requires-clause-has_matrix : goal.refusal_of-requires-clause-has_matrix
refusal_of-requires-clause-has_matrix g c = λ is. c.requires.has_matrix (c.in-Err.ensures.has_key (ap Err is))

pub refusal_of-requires-clause-sealed : goal.refusal_of-requires-clause-sealed
refusal_of-requires-clause-sealed g c =
    let sink = g.W.Sink in
    let stream = g.R.Rng.stream in
    let messages = c.in_ok-messages.messages in
    never_unsealed (Unit {0}) sink.got sink.faults sink.plan c.args.out.now c.seal_mail.new.out ml_kem_768 g.H.KemHash.family hkdf_sha256 aes_256_gcm c.args.key.now [] messages (stream c.args.rng.now) (stream c.seal_mail.new.rng) c.in-Err.error
    (subst (λ (ms : List (List ℕ)). All (λ m. length m ≤ 32768) ms) (sym c.in_ok-messages.ensures) (all_short c.args.count)) c.in-Err.ensures.sealed
