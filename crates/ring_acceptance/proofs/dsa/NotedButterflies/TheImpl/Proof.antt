-- The impl for values that note butterflies meets its trait: its clauses are those of the trait. Rattle
-- makes such a proof itself, but for a parameter that is passed by value and has a type like Elem<F>,
-- generic with a bound that has ghost members.
use Rattle.ring_acceptance.proofs.dsa.NotedButterflies.TheImpl.Statement
use Rattle.ring_acceptance.proofs.dsa.NotedButterflies.butterfly.Met
use Rattle.ring_acceptance.proofs.dsa.NotedButterflies.butterfly.Symbol
use Rattle.ring_acceptance.proofs.dsa.Noted.TheLaws
use Rattle.module_lattice.specs.contracts.butterflies.Butterflies.butterfly as asked
use Rattle.ring_acceptance.specs.contracts.dsa.NotedButterflies.TheImpl
use Rattle.ring_acceptance.specs.contracts.dsa.NotedButterflies.butterfly as given
use Rattle.ring_acceptance.specs.contracts.dsa.Noted
use base.Logic
use contract.BorrowLft
use contract.Running
use denote.Param
use denote.Triple.Carry
use denote.Triple.End
use denote.Triple.Impl
use denote.Triple.Spec
use denote.Triple.Table
use mathlib.Core.Bool
use mathlib.Core.List
use mathlib.Core.Path as Path'
use mir.Syntax

pub bound : Statement.statement
bound =
    λ γ wired F L F-laws L-laws F-copy F-Field F-Field-dict F-Clone F-Clone-dict F-Default F-Default-dict F-Debug F-Debug-dict F-PartialEq F-PartialEq-dict L-Ledger L-Ledger-dict M 𝓤 𝓛 𝓜 𝓡 field clone default debug equal ledger. record {
      butterfly =
          let row = Noted.the_row (Param.copied 0 F) F-Field F-Default F-Debug F-PartialEq in
          let dict = TheImpl.dict F L F-Field F-Field-dict F-Clone F-Clone-dict F-Default F-Default-dict F-Debug F-Debug-dict F-PartialEq F-PartialEq-dict L-Ledger L-Ledger-dict in
          let method = Syntax.method dict 0
          (Param.bounded List.[] tt Syntax.dnil) in
          let signature = given.signature F L F-Field F-Field-dict F-Clone F-Clone-dict F-Default F-Default-dict F-Debug F-Debug-dict F-PartialEq F-PartialEq-dict L-Ledger L-Ledger-dict in
          let ended = given.ended F L F-Field F-Field-dict F-Clone F-Clone-dict F-Default F-Default-dict F-Debug F-Debug-dict F-PartialEq F-PartialEq-dict L-Ledger L-Ledger-dict in
          let spec = given.spec F L F-Field F-Field-dict F-Clone F-Clone-dict F-Default F-Default-dict F-Debug F-Debug-dict F-PartialEq F-PartialEq-dict L-Ledger L-Ledger-dict 𝓛 𝓜.mem 𝓡.returns in
          let ghosts = TheImpl.ghosts F L F-Field F-Field-dict F-Clone F-Clone-dict F-Default F-Default-dict F-Debug F-Debug-dict F-PartialEq F-PartialEq-dict L-Ledger L-Ledger-dict in
          let asked-ended = asked.ended row F L ghosts dict F-Field F-Field-dict F-Clone F-Clone-dict F-Default F-Default-dict F-Debug F-Debug-dict F-PartialEq F-PartialEq-dict L-Ledger L-Ledger-dict in
          let asked-spec = asked.spec row F L ghosts dict F-Field F-Field-dict F-Clone F-Clone-dict F-Default F-Default-dict F-Debug F-Debug-dict F-PartialEq F-PartialEq-dict L-Ledger L-Ledger-dict 𝓛 𝓜.mem 𝓡.returns in
          Impl.implements 𝓛 signature 5 asked-ended.signature.outlives (λ τs. (τs.0, (τs.1.0, (τs.1.1.0, (τs.1.1.1.1.0, tt)))))
          (𝓡.run (γ method)) (Table.run_framed 𝓤 𝓛.H 𝓜 𝓡 (γ method)) spec
          (λ τs a. record {
            ghost = (asked-spec τs a).ghost;
            requires = (asked-spec τs a).requires;
            ensures = (asked-spec τs a).ensures;
          })
          3 (λ τs. (τs.1.1.0, (τs.1.1.1.0, (τs.1.1.1.1.0, tt)))) (λ τs. (row.lives, (F.lives, (L.lives, tt))))
          ((0, tt), ((1, tt), ((2, tt), ((4, tt), tt))))
          (λ τs a y. Logic.sep 𝓤 (given.requires-first F L F-Field F-Field-dict F-Clone F-Clone-dict F-Default F-Default-dict F-Debug F-Debug-dict F-PartialEq F-PartialEq-dict L-Ledger L-Ledger-dict 𝓛 (τs.0, (τs.1.0, (τs.1.1.0, (τs.1.1.1.1.0, tt)))) 𝓜.mem 𝓡.returns a.0 a.1.0 a.1.1.0 a.1.1.1.0 a.1.1.1.1.0)
          (Logic.sep 𝓤 (given.requires-second F L F-Field F-Field-dict F-Clone F-Clone-dict F-Default F-Default-dict F-Debug F-Debug-dict F-PartialEq F-PartialEq-dict L-Ledger L-Ledger-dict 𝓛 (τs.0, (τs.1.0, (τs.1.1.0, (τs.1.1.1.1.0, tt)))) 𝓜.mem 𝓡.returns a.0 a.1.0 a.1.1.0 a.1.1.1.0 a.1.1.1.1.0) (given.requires-apart F L F-Field F-Field-dict F-Clone F-Clone-dict F-Default F-Default-dict F-Debug F-Debug-dict F-PartialEq F-PartialEq-dict L-Ledger L-Ledger-dict 𝓛 (τs.0, (τs.1.0, (τs.1.1.0, (τs.1.1.1.1.0, tt)))) 𝓜.mem 𝓡.returns a.0 a.1.0 a.1.1.0 a.1.1.1.0 a.1.1.1.1.0)))
          (λ τs a y. Logic.id⊢ 𝓤 ((asked-spec τs a).requires y))
          (λ τs h. (
            (BorrowLft.⊑_refl τs.0, (BorrowLft.⊑_refl τs.1.0, (BorrowLft.⊑_refl τs.1.1.0, (BorrowLft.⊑_refl τs.1.1.1.1.0, tt)))),
            (h.0.0, (h.0.1.0, tt)),
          ))
          (λ τs a y. y)
          (λ τs h a y. Carry.insides_in 𝓤 2 (τs.1.1.0, (τs.1.1.1.1.0, tt)) (F.lives, (L.lives, tt)) _ (
            BorrowLft.⊑_trans τs.1.1.0 row.lives F.lives h.1.0
                (TheLaws.the_holds (Param.copied 0 F) F-Field F-Default F-Debug F-PartialEq row.lives (BorrowLft.⊑_refl row.lives)).0,
            (h.1.1.1.0, tt),
          ))
          (λ τs a y r. Impl.hidden 4 (τs.0, (τs.1.0, (τs.1.1.0, (τs.1.1.1.1.0, tt)))) 𝓛 signature.params ended.kept
          (Bool.true, (Bool.true, (Bool.true, (Bool.true, (Bool.true, tt))))) a
          (λ ws. (given.clauses F L F-Field F-Field-dict F-Clone F-Clone-dict F-Default F-Default-dict F-Debug F-Debug-dict F-PartialEq F-PartialEq-dict L-Ledger L-Ledger-dict 𝓛 𝓜.mem 𝓡.returns (τs.0, (τs.1.0, (τs.1.1.0, (τs.1.1.1.1.0, tt)))) a).ensures y r
          (End.outs {n = 4} (τs.0, (τs.1.0, (τs.1.1.0, (τs.1.1.1.1.0, tt)))) signature.params ended.kept a ws))
          (λ ws. (asked.clauses row F L ghosts dict F-Field F-Field-dict F-Clone F-Clone-dict F-Default F-Default-dict F-Debug F-Debug-dict F-PartialEq F-PartialEq-dict L-Ledger L-Ledger-dict 𝓛 𝓜.mem 𝓡.returns τs a).ensures y r
          (End.outs {n = 5} τs asked-ended.signature.params asked-ended.kept a ws))
          λ x. Logic.id⊢ 𝓤 _)
          (Table.widened 𝓤 𝓛.H (Spec.triple_of 𝓛 signature spec) 𝓜 𝓡 γ
          (γ (Symbol.name (Param.bounded (List.◌∷◌ Syntax.a_type (List.◌∷◌ Syntax.a_type List.[])) (F, (L, tt))
          (Syntax.dcons F-Field-dict (Syntax.dcons F-Clone-dict (Syntax.dcons F-Default-dict (Syntax.dcons F-Debug-dict (Syntax.dcons F-PartialEq-dict (Syntax.dcons L-Ledger-dict Syntax.dnil)))))))))
          (γ method) (Symbol.as_method γ wired method Path'.refl)
          (Met.met 𝓤 𝓛 𝓜 (Running.within 𝓤 𝓛.H 𝓜 𝓡 γ) wired F L F-laws L-laws F-copy F-Field F-Field-dict F-Clone F-Clone-dict F-Default F-Default-dict F-Debug F-Debug-dict F-PartialEq F-PartialEq-dict L-Ledger L-Ledger-dict field clone default debug equal ledger));
    }
