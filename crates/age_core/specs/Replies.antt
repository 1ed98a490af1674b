-- Phases with replies: which stanzas are commands, and what each stanza is answered by.
use Rattle.std.specs.Prelude.{◌≡◌, ◌≢◌, ℕ, ◌⊎◌, Bool, true, false, List, [], ◌∷◌, ◌++◌, map, codes, Option, MatchBool}
use Rattle.std.specs.List.{flat_map, list_any, AllByRecursion}
use Rattle.std.specs.Str.{bytes_eq}
use Rattle.std.specs.String.{string_bytes}
use Rattle.age_format.specs.declared.format.Stanza.{Stanza as Held-Stanza}
use Rattle.age_format.specs.Outside.{Wrote, WroteLess}
use Rattle.age_format.specs.Stanza.{Stanza, IsStanza, IsArbitraryString, stanza_of, spelling}
use Rattle.age_format.specs.Reading.{IsDone}
use Rattle.age_core.specs.declared.plugin.bidir.Answer.{Answer}
use Rattle.age_core.specs.declared.plugin.bidir.Answer.TheVariants as answer
use Rattle.age_core.specs.Phases.{Calls}

-- ---- the three replies

-- the command was done: metadata, and a body
abbrev pub ok_reply : List (List ℕ) → List ℕ → Stanza
ok_reply metadata body = record { tag = codes "ok"; args = metadata; body = body }

-- it failed
abbrev pub fail_reply : Stanza
fail_reply = record { tag = codes "fail"; args = []; body = [] }

-- it isn't known
abbrev pub unsupported_reply : Stanza
unsupported_reply = record { tag = codes "unsupported"; args = []; body = [] }

-- what an answer replies
abbrev pub reply_of : Answer → Stanza
reply_of (answer.Ok body) = ok_reply [] body.items
reply_of (answer.OkWith metadata body) = ok_reply (map string_bytes metadata.items) body.items
reply_of answer.Fail = fail_reply

-- an answer that has a spelling
abbrev pub IsAnswer : Answer → Type 0
IsAnswer (answer.Ok body) = Unit {0}
IsAnswer (answer.OkWith metadata body) = AllByRecursion IsArbitraryString (map string_bytes metadata.items)
IsAnswer answer.Fail = Unit {0}

-- a reply was written whole, or the sink failed, and a part of it, which isn't the whole, was written
abbrev pub Responds : {W : Type 0} → (W → Option (List ℕ)) → (W → ℕ) → (W → List ℕ) → W → W → Bool → Stanza → Type 0
Responds got faults plan before now response reply =
    MatchBool response (Wrote got faults plan before now (spelling reply)) (WroteLess got faults plan before now (spelling reply))

-- ---- which stanzas are commands

-- whether the tag of a stanza is one of these commands
abbrev pub is_among : List (List ℕ) → Stanza → Bool
is_among commands s = list_any (λ command. bytes_eq s.tag command) commands

-- `done` ends a phase also where it is one of the commands
abbrev pub IsCommand : List (List ℕ) → Stanza → Type 0
IsCommand commands s = (s.tag ≢ codes "done") × (is_among commands s ≡ true)

-- it is answered by `unsupported`, and passed over
abbrev pub IsPassedOver : List (List ℕ) → Stanza → Type 0
IsPassedOver commands s = (s.tag ≢ codes "done") × (is_among commands s ≡ false)

abbrev pub ArePassedOver : List (List ℕ) → List Stanza → Type 0
ArePassedOver commands stanzas = AllByRecursion (IsPassedOver commands) stanzas

-- the text that answers stanzas that are passed over
abbrev pub unsupported_text : List Stanza → List ℕ
unsupported_text stanzas = flat_map (λ _. spelling unsupported_reply) stanzas

-- stanzas that are passed over, and then a command or a `done`, stand in the text
pub record StandsNext (commands : List (List ℕ)) (text : List ℕ) : Type 0 where
  pub passed : List Stanza
  pub last : Stanza
  pub rest : List ℕ
  pub whole : text ≡ flat_map spelling passed ++ (spelling last ++ rest)
  pub each : AllByRecursion IsStanza passed
  pub passed_over : ArePassedOver commands passed
  pub last_is_stanza : IsStanza last
  pub last_ends : IsDone last ⊎ IsCommand commands last

-- ---- what a handler replies

module _ {F : Type 0} (step : F → Held-Stanza → Answer → F → Type 0) (commands : List (List ℕ)) where
  -- the reply to one stanza: what the handler answers to a command, and `unsupported` to another
  abbrev pub IsReply : F → Held-Stanza → Stanza → F → Type 0
  IsReply f s reply next = MatchBool (is_among commands (stanza_of s))
      ((given : Answer) × step f s given next × (reply ≡ reply_of given))
      ((reply ≡ unsupported_reply) × (next ≡ f))

  -- the replies to stanzas, in order, and the handler behind them
  abbrev pub AreReplies : F → List Held-Stanza → List Stanza → F → Type 0
  AreReplies f [] [] last = f ≡ last
  AreReplies f (s ∷ ss) (reply ∷ replies) last = (next : F) × IsReply f s reply next × AreReplies next ss replies last
  AreReplies f [] (reply ∷ replies) last = ⊥
  AreReplies f (s ∷ ss) [] last = ⊥

module _ {F : Type 0} (takes : F → Held-Stanza → Type 0) (step : F → Held-Stanza → Answer → F → Type 0) where
  -- a handler may be called at a stanza, and its answer has a spelling
  pub record MayAnswerAt (now : F) (s : Held-Stanza) : Type 0 where
    pub may : takes now s
    pub spelled : (given : Answer) (next : F) → step now s given next → IsAnswer given

  -- It may be at any stanza of these commands, in each state in which calls at such stanzas leave it.
  abbrev pub MayAnswer : List (List ℕ) → F → Type 0
  MayAnswer commands f = (taken : List Held-Stanza) (answers : List Answer) (now : F) (s : Held-Stanza) → Calls step f taken answers now
      → AllByRecursion (λ t. IsCommand commands (stanza_of t)) (s ∷ taken) → MayAnswerAt now s
