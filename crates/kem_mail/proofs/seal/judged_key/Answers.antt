use Rattle.std.proofs.Common.{refl, sym, ◌∙◌, inr}
use Rattle.std.proofs.lemmas.Option.{none-some}
use Rattle.ml_kem.proofs.Secrets.{encaps-none-by, encaps-none-from}
use Rattle.kem_mail.proofs.seal.judged_key.Goals as goal

pub returns-in-Err-XofExhausted-clause-no_key : goal.returns-in-Err-XofExhausted-clause-no_key
returns-in-Err-XofExhausted-clause-no_key g c =
    let none = rw c.in-Err-XofExhausted.field-0-is at c.in-Err-XofExhausted.ensures.value in
    inr (refl, encaps-none-from g.P.ParameterSet.set g.H.KemHash.family c.args.ek.now _ none)

pub returns-in-Ok-try_clone-clause-has_key : goal.returns-in-Ok-try_clone-clause-has_key
returns-in-Ok-try_clone-clause-has_key g c = λ none.
    none-some _ (sym (encaps-none-by g.P.ParameterSet.set g.H.KemHash.family c.args.ek.now _ none) ∙ c.in-Ok.ensures.value)
