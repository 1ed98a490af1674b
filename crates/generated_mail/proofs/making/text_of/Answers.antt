use Rattle.std.proofs.Common.{◌≢◌, ◌∙◌, ℕ, List, None, sym, subst, ap, inl}
use Rattle.std.proofs.lemmas.Result.{IfErr-weaker, IfOk-weaker}
use Rattle.ml_kem.specs.Keys.{key_of, rho_part}
use Rattle.ml_kem.specs.Matrix.{matrix}
use Rattle.ml_kem.specs.Parameters.{ml_kem_768}
use Rattle.ml_kem.proofs.Secrets.{matrix-key_of}
use Rattle.kem_mail.specs.Sent.{mail_text}
use Rattle.generated_mail.specs.Made.{generated_messages, generated_sealer}
use Rattle.generated_mail.proofs.Messages.{key_there}
use Rattle.generated_mail.proofs.making.text_of.Goals as goal

pub sealed_text-requires-clause-has_matrix : goal.sealed_text-requires-clause-has_matrix
sealed_text-requires-clause-has_matrix g c =
    let family = g.H.KemHash.family in
    let seed = c.args.seed.now in
    let key = key_there seed (key_of ml_kem_768 family seed) c.in_ok-key.key c.in_ok-key.ensures.value in
    subst (λ (ek : List ℕ). matrix family ml_kem_768.k (rho_part ml_kem_768 ek) ≢ None) (sym (c.encapsulation_key.ensures.value ∙ key.2)) (matrix-key_of ml_kem_768 family seed key.0 key.1)

pub returns-clause-text : goal.returns-clause-text
returns-clause-text g c =
    let family = g.H.KemHash.family in
    let seed = c.args.seed.now in
    let key = key_there seed (key_of ml_kem_768 family seed) c.in_ok-key.key c.in_ok-key.ensures.value in
    IfOk-weaker c.sealed_text.result _ _ (λ text is. (
      key.0,
      key.1,
      is ∙ ap (λ (ek : List ℕ). mail_text (generated_sealer family ek) (generated_messages c.args.count) (g.R.Rng.stream c.args.rng.now)) (c.encapsulation_key.ensures.value ∙ key.2),
    )) c.sealed_text.ensures.text

pub returns-clause-refused : goal.returns-clause-refused
returns-clause-refused g c = IfErr-weaker c.sealed_text.result _ _ (λ e is. inl is) c.sealed_text.ensures.refused
