-- What calls that receive and answer come to, over the connection before and behind them: the
-- stanzas that were received, in order, and the text that was written.
use Rattle.std.specs.Prelude.{◌≡◌, ℕ, ◌<◌, ◌≤◌, ◌⊎◌, List, [], ◌∷◌, ◌++◌, length, map, Option, Some, IfSome, Result, Ok, Err}
use Rattle.std.specs.List.{flat_map}
use Rattle.age_format.specs.declared.format.Stanza.{Stanza as Held-Stanza}
use Rattle.age_format.specs.declared.error.PhaseError.{PhaseError}
use Rattle.age_format.specs.declared.error.PhaseError.TheVariants.{NoMemory, WriteFault, ReadFault, InvalidData, UnexpectedEof, TooMuch, UnexpectedReply}
use Rattle.age_format.specs.Outside.{Rose, Wrote, WroteLess}
use Rattle.age_format.specs.Stanza.{Stanza, IsFront, stanza_of, spelling}
use Rattle.age_format.specs.Front.{IsMalformed}
use Rattle.age_format.specs.Reading.{IsDone, NoneDone}
use Rattle.age_format.specs.Receiving.{Receives}
use Rattle.age_core.specs.declared.plugin.connection.Connection.{Connection}
use Rattle.age_core.specs.declared.plugin.bidir.Answer.{Answer}
use Rattle.age_core.specs.declared.plugin.reply.NoCommand.{NoCommand}
use Rattle.age_core.specs.declared.plugin.reply.NoCommand.TheVariants.{Done, Refused}
use Rattle.age_core.specs.Connecting.{source_of, sink_of, held_by}
use Rattle.age_core.specs.Replies.{IsCommand, ArePassedOver, unsupported_reply, unsupported_text, StandsNext, IsReply, AreReplies}

module _ {R W : Type 0} (left : R → Option (List ℕ)) (reads : R → ℕ) (got : W → Option (List ℕ)) (faults : W → ℕ) (plan : W → List ℕ) (before now : Connection R W) where
  -- these stanzas were received, and exactly this text was written
  pub record Exchanged (stanzas : List Stanza) (text : List ℕ) : Type 0 where
    pub received : Receives (held_by before) (held_by now) (left (source_of before)) (left (source_of now)) stanzas
    pub wrote : Wrote got faults plan (sink_of before) (sink_of now) text

  -- These stanzas were received, and the sink failed in the reply to the last of them: between, all of
  -- the text was written, and then a part of that reply, which isn't the whole.
  pub record Interrupted (stanzas : List Stanza) (text reply : List ℕ) : Type 0 where
    pub received : Receives (held_by before) (held_by now) (left (source_of before)) (left (source_of now)) stanzas
    pub between : W
    pub wrote : Wrote got faults plan (sink_of before) between text
    pub wrote_less : WroteLess got faults plan between (sink_of now) reply

  -- the source had no fault, and nothing was read, or at most 4095 bytes are held
  pub record ReadLittle : Type 0 where
    pub no_fault : reads (source_of now) ≡ reads (source_of before)
    pub little : ((source_of now ≡ source_of before) × ((held_by now).budget ≡ (held_by before).budget)) ⊎ (length (held_by now).bytes ≤ 4095)

  -- why receiving was refused: what stands then
  abbrev pub ReceiveRefused : PhaseError → Type 0
  ReceiveRefused NoMemory = reads (source_of now) ≡ reads (source_of before)
  ReceiveRefused WriteFault = ⊥
  ReceiveRefused (UnexpectedReply tag) = ⊥
  ReceiveRefused ReadFault = Rose (reads (source_of before)) (reads (source_of now)) × (reads (source_of before) ≤ reads (source_of now)) × IsFront (held_by now).bytes × (0 < (held_by now).budget)
  ReceiveRefused InvalidData = (reads (source_of now) ≡ reads (source_of before)) × IsMalformed (held_by now).bytes
  ReceiveRefused UnexpectedEof = (reads (source_of now) ≡ reads (source_of before)) × IsFront (held_by now).bytes × (0 < (held_by now).budget) × IfSome (left (source_of before)) (λ text. left (source_of now) ≡ Some [])
  ReceiveRefused TooMuch = (reads (source_of now) ≡ reads (source_of before)) × IsFront (held_by now).bytes × ((held_by now).budget ≡ 0)

  -- ---- the next command

  module _ (commands : List (List ℕ)) where
    -- it came behind stanzas that were passed over, each of them answered by `unsupported`
    pub record GivesCommand (command : Stanza) : Type 0 where
      pub passed : List Stanza
      pub exchanged : Exchanged (passed ++ command ∷ []) (unsupported_text passed)
      pub passed_over : ArePassedOver commands passed
      pub is_command : IsCommand commands command
      pub little : ReadLittle

    -- a `done` came before any command
    pub record FindsDone : Type 0 where
      pub passed : List Stanza
      pub last : Stanza
      pub exchanged : Exchanged (passed ++ last ∷ []) (unsupported_text passed)
      pub passed_over : ArePassedOver commands passed
      pub is_done : IsDone last
      pub little : ReadLittle

    -- the sink failed in the `unsupported` that answers the last stanza, and nothing behind that stanza was taken
    pub record FailsToPass : Type 0 where
      pub passed : List Stanza
      pub last : Stanza
      pub interrupted : Interrupted (passed ++ last ∷ []) (unsupported_text passed) (spelling unsupported_reply)
      pub passed_over : ArePassedOver commands (passed ++ last ∷ [])
      pub little : ReadLittle

    -- receiving was refused, when each stanza that was taken had been answered
    pub record RefusedPassing (error : PhaseError) : Type 0 where
      pub passed : List Stanza
      pub exchanged : Exchanged passed (unsupported_text passed)
      pub passed_over : ArePassedOver commands passed
      pub refused : ReceiveRefused error

    abbrev pub PassingRefused : PhaseError → Type 0
    PassingRefused NoMemory = RefusedPassing NoMemory
    PassingRefused WriteFault = FailsToPass
    PassingRefused ReadFault = RefusedPassing ReadFault
    PassingRefused InvalidData = RefusedPassing InvalidData
    PassingRefused UnexpectedEof = RefusedPassing UnexpectedEof
    PassingRefused TooMuch = RefusedPassing TooMuch
    PassingRefused (UnexpectedReply tag) = ⊥

    -- why no command was given
    abbrev pub GivesNone : {A : Type 0} → Result A NoCommand → Type 0
    GivesNone (Ok x) = Unit {0}
    GivesNone (Err Done) = FindsDone
    GivesNone (Err (Refused error)) = PassingRefused error

    -- where the stanza that ends the call is held, nothing is read
    abbrev pub NextUnread : Type 0
    NextUnread = StandsNext commands (held_by before).bytes → source_of now ≡ source_of before

  -- ---- a whole phase

  module _ {F : Type 0} (step : F → Held-Stanza → Answer → F → Type 0) (commands : List (List ℕ)) (handler : F) where
    -- each stanza before a first `done` had its reply
    pub record AnswersPhase : Type 0 where
      pub stanzas : List Held-Stanza
      pub replies : List Stanza
      pub after : F
      pub last : Stanza
      pub none_done : NoneDone (map stanza_of stanzas)
      pub replied : AreReplies step commands handler stanzas replies after
      pub exchanged : Exchanged (map stanza_of stanzas ++ last ∷ []) (flat_map spelling replies)
      pub is_done : IsDone last
      pub little : ReadLittle

    -- the sink failed in the reply to the last stanza, and nothing behind that stanza was taken
    pub record FailsToReply : Type 0 where
      pub stanzas : List Held-Stanza
      pub replies : List Stanza
      pub after : F
      pub last : Held-Stanza
      pub reply : Stanza
      pub left_behind : F
      pub none_done : NoneDone (map stanza_of stanzas ++ stanza_of last ∷ [])
      pub replied : AreReplies step commands handler stanzas replies after
      pub owed : IsReply step commands after last reply left_behind
      pub interrupted : Interrupted (map stanza_of stanzas ++ stanza_of last ∷ []) (flat_map spelling replies) (spelling reply)
      pub little : ReadLittle

    -- receiving was refused, when each stanza that was taken had its reply
    pub record RefusedAnswering (error : PhaseError) : Type 0 where
      pub stanzas : List Held-Stanza
      pub replies : List Stanza
      pub after : F
      pub none_done : NoneDone (map stanza_of stanzas)
      pub replied : AreReplies step commands handler stanzas replies after
      pub exchanged : Exchanged (map stanza_of stanzas) (flat_map spelling replies)
      pub refused : ReceiveRefused error

    abbrev pub PhaseRefused : PhaseError → Type 0
    PhaseRefused NoMemory = RefusedAnswering NoMemory
    PhaseRefused WriteFault = FailsToReply
    PhaseRefused ReadFault = RefusedAnswering ReadFault
    PhaseRefused InvalidData = RefusedAnswering InvalidData
    PhaseRefused UnexpectedEof = RefusedAnswering UnexpectedEof
    PhaseRefused TooMuch = RefusedAnswering TooMuch
    PhaseRefused (UnexpectedReply tag) = ⊥
