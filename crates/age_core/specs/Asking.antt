-- Phases that send and await a reply to each stanza: what is seen of one, and what its calls come to.
use Rattle.std.specs.Prelude.{◌≡◌, ◌≢◌, ℕ, ◌⊎◌, List, [], ◌∷◌, ◌++◌, length, codes, Option, Some, None, Result, Ok, Err}
use Rattle.std.specs.List.{flat_map, AllByRecursion}
use Rattle.std.specs.Option.{option_to_list}
use Rattle.std.specs.String.{string_bytes}
use Rattle.std.specs.Borrow.{MutBor}
use Rattle.rand_core.specs.Stream.{Stream}
use Rattle.age_format.specs.declared.format.Stanza.{Stanza as Held-Stanza}
use Rattle.age_format.specs.declared.error.PhaseError.{PhaseError}
use Rattle.age_format.specs.declared.error.PhaseError.TheVariants.{NoMemory, WriteFault, ReadFault, InvalidData, UnexpectedEof, TooMuch, UnexpectedReply}
use Rattle.age_format.specs.Stanza.{Stanza, IsStanza, stanza_of, spelling}
use Rattle.age_send.specs.Sending.{first_roll, second_roll, done}
use Rattle.age_core.specs.declared.plugin.Error.{Error}
use Rattle.age_core.specs.declared.plugin.Error.TheVariants.{Fail, Unsupported}
use Rattle.age_core.specs.declared.plugin.connection.Connection.{Connection}
use Rattle.age_core.specs.declared.plugin.asking.BidirSend.{BidirSend}
use Rattle.age_core.specs.Connecting.{source_of, held_by}
use Rattle.age_core.specs.Exchanges.{Exchanged, Interrupted, ReadLittle, ReceiveRefused}

-- the connection as it is
abbrev pub connection_of : {R W G : Type 0} → BidirSend R W G → Connection R W
connection_of phase = phase.connection.now

-- the random source as it is
abbrev pub rng_of : {R W G : Type 0} → BidirSend R W G → G
rng_of phase = phase.rng.now

-- these were lent to the phase
abbrev pub Holds : {R W G : Type 0} → BidirSend R W G → MutBor (Connection R W) → MutBor G → Type 0
Holds phase connection rng = (phase.connection.ghost_name ≡ connection.ghost_name) × (phase.rng.ghost_name ≡ rng.ghost_name)

-- the same were lent to both
abbrev pub HoldSame : {R W G : Type 0} → BidirSend R W G → BidirSend R W G → Type 0
HoldSame before now = Holds now before.connection before.rng

-- ---- what is sent

-- the grease of two rolls
abbrev pub grease_of : Stream → List Stanza
grease_of stream = option_to_list (first_roll stream).0 ++ option_to_list (second_roll stream).0

-- the grease, and the stanza behind it
abbrev pub due : Stanza → Stream → List Stanza
due sent stream = grease_of stream ++ sent ∷ []

-- Where the stream stands when these had been sent and what followed was under way: the second roll is
-- drawn when the first roll's grease has its reply.
abbrev pub stands_behind : Stream → List Stanza → Stream
stands_behind stream [] = elim (first_roll stream).0 [ None ↦ (second_roll stream).1 | Some grease ↦ (first_roll stream).1 ]
stands_behind stream (s ∷ ss) = (second_roll stream).1

-- what a reply to a command says
abbrev pub Says : Stanza → Result (Result Held-Stanza Error) PhaseError → Type 0
Says reply (Ok (Ok given)) = (reply ≡ stanza_of given) × (reply.tag ≡ codes "ok")
Says reply (Ok (Err Fail)) = reply.tag ≡ codes "fail"
Says reply (Ok (Err Unsupported)) = reply.tag ≡ codes "unsupported"
Says reply (Err (UnexpectedReply tag)) = (string_bytes tag ≡ reply.tag) × (reply.tag ≢ codes "ok") × (reply.tag ≢ codes "fail") × (reply.tag ≢ codes "unsupported")
Says reply (Err NoMemory) = ⊥
Says reply (Err WriteFault) = ⊥
Says reply (Err ReadFault) = ⊥
Says reply (Err InvalidData) = ⊥
Says reply (Err UnexpectedEof) = ⊥
Says reply (Err TooMuch) = ⊥

-- ---- what is read

-- a reply to each of these stands at the front of the text
pub record HoldsReplies (asked : List Stanza) (text : List ℕ) : Type 0 where
  pub replies : List Stanza
  pub rest : List ℕ
  pub whole : text ≡ flat_map spelling replies ++ rest
  pub each : AllByRecursion IsStanza replies
  pub one_each : length replies ≡ length asked

-- where a reply to each of these was held, nothing was read
abbrev pub NoneRead : {R W : Type 0} → Connection R W → Connection R W → List Stanza → Type 0
NoneRead before now asked = HoldsReplies asked (held_by before).bytes → source_of now ≡ source_of before

-- ---- what was sent and received, over the connection before and behind

module _ {R W : Type 0} (left : R → Option (List ℕ)) (reads : R → ℕ) (got : W → Option (List ℕ)) (faults : W → ℕ) (plan : W → List ℕ) (before now : Connection R W) where
  -- each of these stanzas was sent and had one reply
  pub record Conversed (sent replies : List Stanza) : Type 0 where
    pub one_each : length replies ≡ length sent
    pub exchanged : Exchanged left reads got faults plan before now replies (flat_map spelling sent)
    pub little : ReadLittle left reads got faults plan before now
    pub unread : NoneRead before now sent

  -- the sink failed in a stanza that was due behind these, each of which had its reply
  pub record FailsToSend (due answered : List Stanza) : Type 0 where
    pub at : Stanza
    pub later : List Stanza
    pub in_order : due ≡ answered ++ at ∷ later
    pub replies : List Stanza
    pub one_each : length replies ≡ length answered
    pub interrupted : Interrupted left reads got faults plan before now replies (flat_map spelling answered) (spelling at)
    pub little : ReadLittle left reads got faults plan before now
    pub unread : NoneRead before now answered

  -- a stanza that was due behind these was sent, and receiving its reply was refused
  pub record IsUnanswered (due answered : List Stanza) (error : PhaseError) : Type 0 where
    pub at : Stanza
    pub later : List Stanza
    pub in_order : due ≡ answered ++ at ∷ later
    pub replies : List Stanza
    pub one_each : length replies ≡ length answered
    pub exchanged : Exchanged left reads got faults plan before now replies (flat_map spelling (answered ++ at ∷ []))
    pub unread : NoneRead before now (answered ++ at ∷ [])
    pub refused : ReceiveRefused left reads got faults plan before now error

  -- there was no memory for grease that was due behind these
  pub record RanOut (due answered : List Stanza) : Type 0 where
    pub at : Stanza
    pub later : List Stanza
    pub in_order : due ≡ answered ++ at ∷ later
    pub replies : List Stanza
    pub conversed : Conversed answered replies

  -- Why a call ended behind these stanzas, each of which had its reply: for which stanzas memory is
  -- asked, which are sent, and which await a reply.
  abbrev pub StopsBehind : (drawn sent awaited answered : List Stanza) → PhaseError → Type 0
  StopsBehind drawn sent awaited answered NoMemory = RanOut drawn answered ⊎ IsUnanswered awaited answered NoMemory
  StopsBehind drawn sent awaited answered WriteFault = FailsToSend sent answered
  StopsBehind drawn sent awaited answered ReadFault = IsUnanswered awaited answered ReadFault
  StopsBehind drawn sent awaited answered InvalidData = IsUnanswered awaited answered InvalidData
  StopsBehind drawn sent awaited answered UnexpectedEof = IsUnanswered awaited answered UnexpectedEof
  StopsBehind drawn sent awaited answered TooMuch = IsUnanswered awaited answered TooMuch
  StopsBehind drawn sent awaited answered (UnexpectedReply tag) = ⊥

  module _ (stream rest : Stream) where
    -- a call ended before its last stanza was sent and had its reply, if it awaits one
    pub record Stops (drawn sent awaited : List Stanza) (error : PhaseError) : Type 0 where
      pub answered : List Stanza
      pub behind : StopsBehind drawn sent awaited answered error
      pub stands : rest ≡ stands_behind stream answered

    -- the grease and the stanza were sent, each had one reply, and the last reply says this
    pub record Hears (sent : Stanza) (outcome : Result (Result Held-Stanza Error) PhaseError) : Type 0 where
      pub dropped : List Stanza
      pub reply : Stanza
      pub conversed : Conversed (due sent stream) (dropped ++ reply ∷ [])
      pub stands : rest ≡ (second_roll stream).1
      pub says : Says reply outcome

    -- what sending a command comes to
    abbrev pub Asks : Stanza → Result (Result Held-Stanza Error) PhaseError → Type 0
    Asks sent (Ok outcome) = Hears sent (Ok outcome)
    Asks sent (Err (UnexpectedReply tag)) = Hears sent (Err (UnexpectedReply tag))
    Asks sent (Err NoMemory) = Stops (grease_of stream) (due sent stream) (due sent stream) NoMemory
    Asks sent (Err WriteFault) = Stops (grease_of stream) (due sent stream) (due sent stream) WriteFault
    Asks sent (Err ReadFault) = Stops (grease_of stream) (due sent stream) (due sent stream) ReadFault
    Asks sent (Err InvalidData) = Stops (grease_of stream) (due sent stream) (due sent stream) InvalidData
    Asks sent (Err UnexpectedEof) = Stops (grease_of stream) (due sent stream) (due sent stream) UnexpectedEof
    Asks sent (Err TooMuch) = Stops (grease_of stream) (due sent stream) (due sent stream) TooMuch

    -- the grease was sent, each had one reply, and then `done` was sent
    pub record Finishes : Type 0 where
      pub replies : List Stanza
      pub one_each : length replies ≡ length (grease_of stream)
      pub exchanged : Exchanged left reads got faults plan before now replies (flat_map spelling (due done stream))
      pub little : ReadLittle left reads got faults plan before now
      pub unread : NoneRead before now (grease_of stream)
      pub stands : rest ≡ (second_roll stream).1
