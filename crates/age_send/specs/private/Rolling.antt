-- One roll and two, without the stanza behind them.
use Rattle.std.specs.Prelude.{◌≡◌, ℕ, List, ◌++◌, Option, Some, IsSome, IfSome, ◌⊎◌}
use Rattle.rand_core.specs.Stream.{Stream}
use Rattle.age_format.specs.Outside.{Wrote, WrotePart, GainsPart}
use Rattle.age_format.specs.Stanza.{IsStanza}
use Rattle.age_send.specs.Sending.{FaultInFirst, drawn_roll, first_roll, second_roll, rolled_text}

module _ {W : Type 0} (got : W → Option (List ℕ)) (faults : W → ℕ) (plan : W → List ℕ) (before now : W) (stream rest : Stream) where
  -- the grease of one roll was written
  pub record Rolled : Type 0 where
    pub wrote : Wrote got faults plan before now (rolled_text (drawn_roll stream).0)
    pub stands : rest ≡ (drawn_roll stream).1
    pub is : IfSome (drawn_roll stream).0 IsStanza

  -- a part of it was
  pub record RollFailed : Type 0 where
    pub made : IsSome (drawn_roll stream).0
    pub wrote : WrotePart got faults plan before now (rolled_text (drawn_roll stream).0)
    pub stands : rest ≡ (drawn_roll stream).1

  -- the grease of both rolls was written
  pub record Greased : Type 0 where
    pub wrote : Wrote got faults plan before now (rolled_text (first_roll stream).0 ++ rolled_text (second_roll stream).0)
    pub stands : rest ≡ (second_roll stream).1
    pub first_is : IfSome (first_roll stream).0 IsStanza
    pub second_is : IfSome (second_roll stream).0 IsStanza

  -- the fault came in the second roll's grease
  pub record FaultInSecond : Type 0 where
    pub gained : IfSome (got before) (λ had. GainsPart (Some (had ++ rolled_text (first_roll stream).0)) (got now) (rolled_text (second_roll stream).0))
    pub stands : rest ≡ (second_roll stream).1

  -- a part of it was
  pub record GreaseFailed : Type 0 where
    pub wrote : WrotePart got faults plan before now (rolled_text (first_roll stream).0 ++ rolled_text (second_roll stream).0)
    pub place : FaultInFirst got faults plan before now stream rest ⊎ FaultInSecond
