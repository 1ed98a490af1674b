-- The headline, from what is due.
use Rattle.std.proofs.Common.{◌≡◌, ◌⊎◌, ℕ, List, ◌++◌, Option, Some, None, Ok, Err, refl, sym, ap, subst, ◌∙◌, inl, inr, arith}
use Rattle.std.specs.Prelude.{IfSome}
use Rattle.kem_hash.specs.Family.{Family}
use Rattle.age_format.specs.Outside.{Gains}
use Rattle.mail_commands.specs.Command.{Spells}
use Rattle.mail_commands.specs.Due.{Due, ComesTo, EndsWith, HoldsMail, IsAnswer, Outcome, items_output, outcome_output, outcome_status}
use Rattle.output_lines.specs.Lines.{lines}
use Rattle.mail_commands.specs.declared.command.Command.{Command}
use Rattle.mail_commands.specs.declared.command.Command.TheVariants.{Open}
use Rattle.mail_commands.specs.declared.command.SuiteName.{SuiteName}
use Rattle.kem_mail.specs.declared.error.MailError.TheVariants.{NoMemory, ReadFault}
use Rattle.mail_commands.specs.declared.error.RunError.TheVariants.{Mail}
use Rattle.mail_commands.proofs.Dues.{one_command, same_due}
use Rattle.mail_commands.proofs.Tellings.{for_some}

-- two things hold of the bytes that a source tells, and so a third
for_both : (o : Option (List ℕ)) (P Q R : List ℕ → Type 0) → IfSome o P → IfSome o Q → ((t : List ℕ) → P t → Q t → R t) → IfSome o R
for_both None P Q R h k f = tt
for_both (Some text) P Q R h k f = f text h k

module _ (family : Family) (words : List (List ℕ)) where
  -- status 0 is due for messages alone
  items_of_outcome : (command : Command) (text : List ℕ) (o : Outcome) (output : List ℕ) → 0 ≡ outcome_status o → output ≡ outcome_output command o → EndsWith family command text o
      → (items : List (List ℕ)) × ComesTo family command text (Ok items) × (output ≡ items_output command items)
  items_of_outcome command text (Ok items) output is told ends = (items, ends, told)
  items_of_outcome command text (Err (Mail NoMemory)) output is told ends = absurd (cc is)
  items_of_outcome command text (Err (Mail ReadFault)) output is told ends = absurd (cc is)
  items_of_outcome command text (Err error) output is told ends = absurd (cc is)

  module _ (suite : SuiteName) (budget : ℕ) (spelled : Spells words (Open suite budget)) where
    due_messages : (text : List ℕ) (status : ℕ) (output : List ℕ) → status ≡ 0 → Due family words text status output → (messages : List (List ℕ)) × HoldsMail family suite budget text messages × (output ≡ lines messages)
    due_messages text status output zero (inl d) =
        let same = one_command words d.command (Open suite budget) d.spelled spelled in
        items_of_outcome (Open suite budget) text d.outcome output (sym zero ∙ d.status_is) (d.output_is ∙ ap (λ (c : Command). outcome_output c d.outcome) same) (subst (λ (c : Command). EndsWith family c text d.outcome) same d.ends_with)
    due_messages text status output zero (inr d) = absurd (let is = d.status_is in omega (arith, is, zero))

    messages_due : (text : List ℕ) (messages : List (List ℕ)) → HoldsMail family suite budget text messages → Due family words text 0 (lines messages)
    messages_due text messages holds = inl (record { command = Open suite budget; spelled = spelled; outcome = Ok messages; ends_with = holds; status_is = refl; output_is = refl })

module _ (family : Family) (words : List (List ℕ)) (left : Option (List ℕ)) (result : ℕ) (before now : Option (List ℕ)) where
  -- the clause of a run on what was written
  abbrev pub Answered : List ℕ → Type 0
  Answered text = IsAnswer result → (output : List ℕ) × Due family words text result output × Gains before now output

  pub three_due : IfSome left Answered → IfSome left (λ text. result ≡ 3 → (output : List ℕ) × Due family words text 3 output × Gains before now output)
  three_due answered = for_some left Answered (λ text. result ≡ 3 → (output : List ℕ) × Due family words text 3 output × Gains before now output) answered (λ text a three.
      let told = a (inr (inr three)) in (told.0, subst (λ (s : ℕ). Due family words text s told.0) three told.1, told.2))

  module _ (suite : SuiteName) (budget : ℕ) (spelled : Spells words (Open suite budget)) where
    pub zero_messages : IfSome left Answered → IfSome left (λ text. result ≡ 0 → (messages : List (List ℕ)) × HoldsMail family suite budget text messages × Gains before now (lines messages))
    zero_messages answered = for_some left Answered (λ text. result ≡ 0 → (messages : List (List ℕ)) × HoldsMail family suite budget text messages × Gains before now (lines messages)) answered (λ text a zero.
        let told = a (inl zero) in
        let due = due_messages family words suite budget spelled text result told.0 zero told.1 in
        (due.0, due.1, subst (Gains before now) due.2 told.2))

    pub three_no_mail : IfSome left Answered → IfSome left (λ text. result ≡ 3 → (messages : List (List ℕ)) → HoldsMail family suite budget text messages → ⊥)
    three_no_mail answered = for_some left Answered (λ text. result ≡ 3 → (messages : List (List ℕ)) → HoldsMail family suite budget text messages → ⊥) answered (λ text a three messages holds.
        let told = a (inr (inr three)) in
        let same = (same_due family words text result 0 told.0 (lines messages) told.1 (messages_due family words suite budget spelled text messages holds)).0 in
        omega (arith, same, three))

    pub complete_messages : (source_rose sink_rose : Type 0) → IfSome left Answered
        → IfSome left (λ text. (status : ℕ) (output : List ℕ) → Due family words text status output → (source_rose → ⊥) → (sink_rose → ⊥) → (result ≡ status) ⊎ (result ≡ 6))
        → IfSome left (λ text. (messages : List (List ℕ)) → HoldsMail family suite budget text messages → (source_rose → ⊥) → (sink_rose → ⊥) → ((result ≡ 0) × Gains before now (lines messages)) ⊎ (result ≡ 6))
    complete_messages source_rose sink_rose answered complete =
        for_both left Answered (λ text. (status : ℕ) (output : List ℕ) → Due family words text status output → (source_rose → ⊥) → (sink_rose → ⊥) → (result ≡ status) ⊎ (result ≡ 6))
        (λ text. (messages : List (List ℕ)) → HoldsMail family suite budget text messages → (source_rose → ⊥) → (sink_rose → ⊥) → ((result ≡ 0) × Gains before now (lines messages)) ⊎ (result ≡ 6))
        answered complete (λ text a k messages holds s o.
        let due = messages_due family words suite budget spelled text messages holds in
        elim (k 0 (lines messages) due s o) [
          | inl zero ↦
              let told = a (inl zero) in
              inl (zero, subst (Gains before now) (same_due family words text result 0 told.0 (lines messages) told.1 due).1 told.2)
          | inr six ↦ inr six
        ])

-- the statuses that are left over a source that never fails
pub statuses_left : (result : ℕ) (fault : Type 0) → IsAnswer result ⊎ ((result ≡ 4) ⊎ ((result ≡ 5) ⊎ (result ≡ 6))) → (result ≡ 2 → ⊥) → (result ≡ 3 → ⊥) → (result ≡ 4 → ⊥) → (result ≡ 5 → fault)
    → (result ≡ 0) ⊎ ((result ≡ 6) ⊎ ((result ≡ 5) × fault))
statuses_left result fault (inl (inl e)) two three four five = inl e
statuses_left result fault (inl (inr (inl e))) two three four five = absurd (two e)
statuses_left result fault (inl (inr (inr e))) two three four five = absurd (three e)
statuses_left result fault (inr (inl e)) two three four five = absurd (four e)
statuses_left result fault (inr (inr (inl e))) two three four five = inr (inr (e, five e))
statuses_left result fault (inr (inr (inr e))) two three four five = inr (inl e)

-- what a sink over memory gained
pub gained : (before now output : List ℕ) → Gains (Some before) (Some now) output → now ≡ before ++ output
gained before now output e = cc
