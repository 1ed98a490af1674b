-- The equality of options is an equivalence: a proof that an `impl` cites, and no definition.
use Rattle.std.specs.Prelude.{Bool}
use Rattle.std.specs.Option.{option_eq}
use Rattle.std.specs.Cmp.{IsEquivalence, on_equiv}
use Rattle.std.proofs.Common.{rules}
use Rattle.ctutils.specs.Options.{ct_option_eq, into_option}

-- an equivalence of values gives one of options
pub ct_option_eq-equivalence : {T : Type 0} {eq : T → T → Bool} → IsEquivalence eq → IsEquivalence (ct_option_eq eq)
ct_option_eq-equivalence e =
    let options : IsEquivalence (option_eq _) = search (rules, e) in on_equiv into_option options
