use Rattle.std.proofs.Common.{◌++◌, Ok, ap}
use Rattle.std.proofs.lemmas.Result.{err_from_is_err_and}
use Rattle.age_format.specs.Outside.{Rose}
use Rattle.ml_kem.specs.Parameters.{Parameters}
use Rattle.kem_mail.proofs.Honest.{honest_opens, told_at}
use Rattle.kem_mail.proofs.Keyed.{lost_nothing, told_by_key, complete_by_key}
use Rattle.kem_mail.proofs.by_seed.open_mail.Goals as goal

pub returns-in_err-key-clause-taken : goal.returns-in_err-key-clause-taken
returns-in_err-key-clause-taken g c =
    let p = err_from_is_err_and c.from_residual.result c.from_residual.ensures.1 in
    rw (p.1, p.2) (lost_nothing (g.S.Source.left c.args.src.now) c.args.budget c.in_err-key.field-0.0)

pub returns-clause-verdict : goal.returns-clause-verdict
returns-clause-verdict g c =
    told_by_key g.P.ParameterSet.set g.H.KemHash.family g.D.Kdf.kdf g.A.Aead.aead g.A.AeadImpl.BaseAead.open_of c.args.seed.now c.new-sk.result c.args.info.now g.P.ParameterSet.CT_SIZE c.args.budget c.in_ok-key.key
    c.in_ok-key.ensures.value c.new-sk.ensures (ap (λ (set : Parameters). set.ct_size) g.P.ParameterSet.constants) (g.S.Source.left c.args.src.now) c.open_with.result c.open_with.ensures.verdict

pub returns-clause-complete : goal.returns-clause-complete
returns-clause-complete g c =
    let faults = g.S.Source.faults in
    complete_by_key g.P.ParameterSet.set g.H.KemHash.family g.D.Kdf.kdf g.A.Aead.aead g.A.AeadImpl.BaseAead.open_of c.args.seed.now c.new-sk.result c.args.info.now g.P.ParameterSet.CT_SIZE c.args.budget c.in_ok-key.key
    c.in_ok-key.ensures.value c.new-sk.ensures (ap (λ (set : Parameters). set.ct_size) g.P.ParameterSet.constants) (g.S.Source.left c.args.src.now) c.open_with.result
    (Rose (faults c.args.src.now) (faults c.open_with.new.src)) c.open_with.ensures.complete

pub returns-clause-honest : goal.returns-clause-honest
returns-clause-honest g c = λ key messages m text rest there bytes inside sent told fits calm.
    let impl = g.A.AeadImpl.BaseAead in
    let opens = honest_opens g.P.ParameterSet.set g.H.KemHash.family g.D.Kdf.kdf g.A.Aead.aead impl.seal_of impl.open_of g.met.A.AeadImpl.BaseAead.opens_what_was_sealed
    c.args.seed.now c.args.info.now key messages m text rest c.args.budget g.P.ParameterSet.is_set there bytes inside sent fits in
    told_at _ (g.S.Source.left c.args.src.now) (text ++ rest) told (returns-clause-complete g c) (Ok messages) opens calm
