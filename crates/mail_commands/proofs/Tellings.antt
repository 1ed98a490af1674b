-- What a run told is what is due.
use Rattle.std.proofs.Common.{◌≡◌, ◌≢◌, ◌⊎◌, ℕ, List, [], ◌++◌, ◌≤◌, Option, Some, None, Ok, Err, refl, sym, ap, subst, ◌∙◌, inl, inr, arith}
use Rattle.std.specs.Prelude.{IfSome}
use Rattle.kem_hash.specs.Family.{Family}
use Rattle.age_format.specs.Outside.{Rose, Gains, GainsPart, Wrote, WrotePart}
use Rattle.mail_commands.specs.Command.{Spells, input_word}
use Rattle.mail_commands.specs.Due.{Due, IsAnswer, Outcome, outcome_output, outcome_status}
use Rattle.mail_commands.specs.Lines.{error_line, no_command_line}
use Rattle.kem_mail.specs.Sent.{AreStanzas}
use Rattle.kem_mail.specs.Taken.{Lost}
use Rattle.kem_mail.proofs.Wholes.{no_stanzas}
use Rattle.mail_commands.specs.Taken.{Takes}
use Rattle.mail_commands.specs.Run.{CameTo, IsHalted, IsTold, Tells}
use Rattle.mail_commands.specs.declared.command.Command.{Command}
use Rattle.mail_commands.specs.declared.command.Command.TheVariants.{Open, Key, Seal, Gen}
use Rattle.mail_commands.specs.declared.command.SuiteName.{SuiteName}
use Rattle.kem_mail.specs.declared.error.MailError.TheVariants.{NoMemory, ReadFault}
use Rattle.mail_commands.specs.declared.error.RunError.{RunError}
use Rattle.mail_commands.specs.declared.error.RunError.TheVariants.{Mail}
use Rattle.mail_commands.proofs.Dues.{same_due}

-- where a source tells its bytes, another thing holds of them
pub for_some : (o : Option (List ℕ)) (P Q : List ℕ → Type 0) → IfSome o P → ((t : List ℕ) → P t → Q t) → IfSome o Q
for_some None P Q h f = tt
for_some (Some text) P Q h f = f text h

for_each : (o : Option (List ℕ)) (Q : List ℕ → Type 0) → ((t : List ℕ) → Q t) → IfSome o Q
for_each None Q f = tt
for_each (Some text) Q f = f text

not_five : (result : ℕ) → IsAnswer result → result ≢ 5
not_five result (inl e) f = omega (arith, e, f)
not_five result (inr (inl e)) f = omega (arith, e, f)
not_five result (inr (inr e)) f = omega (arith, e, f)

-- ---- the status of an outcome

never_two : (o : Outcome) → outcome_status o ≢ 2
never_two (Ok items) e = cc e
never_two (Err (Mail NoMemory)) e = cc e
never_two (Err (Mail ReadFault)) e = cc e
never_two (Err error) e = cc e

pub never_five : (o : Outcome) → outcome_status o ≢ 5
never_five (Ok items) e = cc e
never_five (Err (Mail NoMemory)) e = cc e
never_five (Err (Mail ReadFault)) e = cc e
never_five (Err error) e = cc e

four_is : (o : Outcome) → outcome_status o ≡ 4 → o ≡ Err (Mail ReadFault)
four_is (Ok items) e = absurd (cc e)
four_is (Err (Mail NoMemory)) e = absurd (cc e)
four_is (Err (Mail ReadFault)) e = refl
four_is (Err error) e = absurd (cc e)

six_is : (o : Outcome) → outcome_status o ≡ 6 → o ≡ Err (Mail NoMemory)
six_is (Ok items) e = absurd (cc e)
six_is (Err (Mail NoMemory)) e = refl
six_is (Err (Mail ReadFault)) e = absurd (cc e)
six_is (Err error) e = absurd (cc e)

three_is : (command : Command) (o : Outcome) → outcome_status o ≡ 3 → (error : RunError) × (outcome_status (Err error) ≡ 3) × (outcome_output command o ≡ error_line (input_word command) error)
three_is command (Ok items) e = absurd (cc e)
three_is command (Err error) e = (error, e, refl)

-- an answer, a fault of the source, or want of memory
pub kinds : (o : Outcome) → IsAnswer (outcome_status o) ⊎ ((o ≡ Err (Mail ReadFault)) ⊎ (o ≡ Err (Mail NoMemory)))
kinds (Ok items) = inl (inl refl)
kinds (Err (Mail NoMemory)) = inr (inr refl)
kinds (Err (Mail ReadFault)) = inr (inl refl)
kinds (Err error) = inl (inr (inr refl))

-- ---- any status and output that were told

not_six : (result : ℕ) → IsAnswer result → result ≢ 6
not_six result (inl e) f = omega (arith, e, f)
not_six result (inr (inl e)) f = omega (arith, e, f)
not_six result (inr (inr e)) f = omega (arith, e, f)

-- what was told, by any command
abbrev pub Told : {W : Type 0} → (W → Option (List ℕ)) → (W → ℕ) → (W → List ℕ) → W → W → ℕ → ℕ → List ℕ → Type 0
Told got faults plan before now result status output = IsTold got faults plan before now result status output ⊎ IsHalted got faults plan before now result status output

pub tells_told : {W : Type 0} (command : Command) (got : W → Option (List ℕ)) (faults : W → ℕ) (plan : W → List ℕ) (before now : W) (result status : ℕ) (output : List ℕ)
    → Tells command got faults plan before now result status output → Told got faults plan before now result status output
tells_told (Open suite budget) got faults plan before now result status output told = inl told
tells_told (Key set) got faults plan before now result status output told = inl told
tells_told (Gen count) got faults plan before now result status output told = inl told
tells_told (Seal suite) got faults plan before now result status output told = told

module _ {W : Type 0} (got : W → Option (List ℕ)) (faults : W → ℕ) (plan : W → List ℕ) (before now : W) (result status : ℕ) (output : List ℕ) (told : Told got faults plan before now result status output) where
  pub told_all : result ≢ 5 → result ≢ 6 → (result ≡ status) × Wrote got faults plan before now output
  told_all other more = elim told [
    | inr halted ↦ absurd (more halted.result_is)
    | inl is ↦ elim is [ inl all ↦ all | inr part ↦ absurd (other part.0) ]
  ]

  pub told_part : status ≢ 5 → result ≡ 5 → IsAnswer status × WrotePart got faults plan before now output
  told_part other five = elim told [
    | inr halted ↦ (let six = halted.result_is in absurd (omega (arith, five, six)))
    | inl is ↦ elim is [ inl all ↦ absurd (other (sym all.0 ∙ five)) | inr part ↦ (part.1, part.2) ]
  ]

  pub told_fault : status ≢ 5 → result ≡ 5 → Rose (faults before) (faults now)
  told_fault other five = (told_part other five).1.fault

  pub told_no_fault : result ≢ 5 → faults now ≡ faults before
  told_no_fault other = elim told [
    | inr halted ↦ halted.wrote.no_fault
    | inl is ↦ elim is [ inl all ↦ all.1.no_fault | inr part ↦ absurd (other part.0) ]
  ]

  pub told_counts : faults before ≤ faults now
  told_counts = elim told [
    | inr halted ↦ (let same = halted.wrote.no_fault in omega (arith, same))
    | inl is ↦ elim is [ inl all ↦ (let same = all.1.no_fault in omega (arith, same)) | inr part ↦ part.2.no_fall ]
  ]

  pub told_plan : plan now ≡ plan before
  told_plan = elim told [
    | inr halted ↦ halted.wrote.same_plan
    | inl is ↦ elim is [ inl all ↦ all.1.same_plan | inr part ↦ part.2.same_plan ]
  ]

  -- whole stanzas, whatever was due
  pub told_memory_whole : (status ≡ 6 → output ≡ []) → result ≡ 6 → (text : List ℕ) × AreStanzas text × Gains (got before) (got now) text
  told_memory_whole silent six = elim told [
    | inr halted ↦ (halted.part, halted.are, halted.wrote.gained)
    | inl is ↦ elim is [
      | inl all ↦ ([], no_stanzas, subst (Gains (got before) (got now)) (silent (sym all.0 ∙ six)) all.1.gained)
      | inr part ↦ (let five = part.0 in absurd (omega (arith, six, five)))
    ]
  ]

  module _ (family : Family) (words : List (List ℕ)) (left : Option (List ℕ)) (owed : IfSome left (λ text. IsAnswer status → Due family words text status output)) where
    pub told_answered : IfSome left (λ text. IsAnswer result → (written : List ℕ) × Due family words text result written × Gains (got before) (got now) written)
    told_answered = for_some left _ (λ text. IsAnswer result → (written : List ℕ) × Due family words text result written × Gains (got before) (got now) written) owed (λ text due answer.
        let all = told_all (not_five result answer) (not_six result answer) in
        (output, subst (λ (s : ℕ). Due family words text s output) (sym all.0) (due (subst IsAnswer all.0 answer)), all.1.gained))

    pub told_write_part : status ≢ 5 → IfSome left (λ text. result ≡ 5 → (s : ℕ) × (written : List ℕ) × Due family words text s written × GainsPart (got before) (got now) written)
    told_write_part other = for_some left _ (λ text. result ≡ 5 → (s : ℕ) × (written : List ℕ) × Due family words text s written × GainsPart (got before) (got now) written) owed (λ text due five.
        let part = told_part other five in (status, output, due part.0, part.1.gained))

    -- a part that was written is a part of what is due
    part_gained : (left' : Option (List ℕ)) (part rest : List ℕ) → output ≡ part ++ rest → Gains left' (got now) part → GainsPart left' (got now) output
    part_gained None part rest whole gained = tt
    part_gained (Some had) part rest whole gained = (part, rest, whole, gained)

    pub told_memory_part : (status ≡ 6 → output ≡ []) → IfSome left (λ text. result ≡ 6 → Gains (got before) (got now) [] ⊎ ((s : ℕ) × (written : List ℕ) × Due family words text s written × GainsPart (got before) (got now) written))
    told_memory_part silent = for_some left _ (λ text. result ≡ 6 → Gains (got before) (got now) [] ⊎ ((s : ℕ) × (written : List ℕ) × Due family words text s written × GainsPart (got before) (got now) written)) owed (λ text due six.
        elim told [
          | inr halted ↦ inr (status, output, due halted.owed, part_gained (got before) halted.part halted.rest halted.whole halted.wrote.gained)
          | inl is ↦ elim is [
            | inl all ↦ inl (subst (Gains (got before) (got now)) (silent (sym all.0 ∙ six)) all.1.gained)
            | inr part ↦ (let five = part.0 in absurd (omega (arith, six, five)))
          ]
        ])

    told_complete_as : (text : List ℕ) (rose : Type 0) → (IsAnswer status → Due family words text status output) → IsAnswer status ⊎ (rose ⊎ (status ≡ 6)) → (s : ℕ) (written : List ℕ) → Due family words text s written
        → (rose → ⊥) → result ≡ status → (result ≡ s) ⊎ (result ≡ 6)
    told_complete_as text rose due (inl answer) s written d calm is = inl (is ∙ (same_due family words text status s output written (due answer) d).0)
    told_complete_as text rose due (inr (inl rises)) s written d calm is = absurd (calm rises)
    told_complete_as text rose due (inr (inr six)) s written d calm is = inr (is ∙ six)

    pub told_complete : (rose : Type 0) → status ≢ 5 → IsAnswer status ⊎ (rose ⊎ (status ≡ 6))
        → IfSome left (λ text. (s : ℕ) (written : List ℕ) → Due family words text s written → (rose → ⊥) → (Rose (faults before) (faults now) → ⊥) → (result ≡ s) ⊎ (result ≡ 6))
    told_complete rose other kind = for_some left _ (λ text. (s : ℕ) (written : List ℕ) → Due family words text s written → (rose → ⊥) → (Rose (faults before) (faults now) → ⊥) → (result ≡ s) ⊎ (result ≡ 6)) owed (λ text due s written d calm quiet.
        elim told [
          | inr halted ↦ inr halted.result_is
          | inl is ↦ elim is [
            | inl all ↦ told_complete_as text rose due kind s written d calm all.0
            | inr part ↦ absurd (quiet part.2.fault)
          ]
        ])

-- ---- words that spell no command

pub no_command_owed : (family : Family) (words : List (List ℕ)) (left : Option (List ℕ)) → ((command : Command) → Spells words command → ⊥) → IfSome left (λ text. IsAnswer 2 → Due family words text 2 no_command_line)
no_command_owed family words left none = for_each left (λ text. IsAnswer 2 → Due family words text 2 no_command_line) (λ text answer. inr (record { no_command = none; status_is = refl; output_is = refl }))

pub told_status : {W : Type 0} (got : W → Option (List ℕ)) (faults : W → ℕ) (plan : W → List ℕ) (before now : W) (result status : ℕ) (output : List ℕ) → IsTold got faults plan before now result status output → (result ≡ status) ⊎ (result ≡ 5)
told_status got faults plan before now result status output told = elim told [ inl all ↦ inl all.0 | inr part ↦ inr part.0 ]

-- ---- a command

module _ (family : Family) (words : List (List ℕ)) (left left_now : Option (List ℕ)) (sf sn : ℕ) (command : Command) (spelled : Spells words command) (outcome : Outcome) (came : CameTo family command left left_now sf sn outcome) where
  pub command_owed : IfSome left (λ text. IsAnswer (outcome_status outcome) → Due family words text (outcome_status outcome) (outcome_output command outcome))
  command_owed = for_some left _ (λ text. IsAnswer (outcome_status outcome) → Due family words text (outcome_status outcome) (outcome_output command outcome)) came.ends_with (λ text ends answer.
      inl (record { command = command; spelled = spelled; outcome = outcome; ends_with = ends answer; status_is = refl; output_is = refl }))

  pub command_kind : IsAnswer (outcome_status outcome) ⊎ (Rose sf sn ⊎ (outcome_status outcome ≡ 6))
  command_kind = elim (kinds outcome) [
    | inl answer ↦ inl answer
    | inr silent ↦ elim silent [
      | inl fault ↦ inr (inl (came.read_fault fault))
      | inr memory ↦ inr (inr (ap outcome_status memory))
    ]
  ]

  pub silent_memory : outcome_status outcome ≡ 6 → outcome_output command outcome ≡ []
  silent_memory is = ap (λ (o : Outcome). outcome_output command o) (six_is outcome is)

  module _ {W : Type 0} (got : W → Option (List ℕ)) (faults : W → ℕ) (plan : W → List ℕ) (before now : W) (result : ℕ) (tells : Tells command got faults plan before now result (outcome_status outcome) (outcome_output command outcome)) where
    pub told : Told got faults plan before now result (outcome_status outcome) (outcome_output command outcome)
    told = tells_told command got faults plan before now result (outcome_status outcome) (outcome_output command outcome) tells

    all_told : (n : ℕ) → n ≢ 5 → n ≢ 6 → result ≡ n → (outcome_status outcome ≡ n) × Gains (got before) (got now) (outcome_output command outcome)
    all_told n other more is =
        let all = told_all got faults plan before now result (outcome_status outcome) (outcome_output command outcome) told (λ five. other (sym is ∙ five)) (λ six. more (sym is ∙ six)) in
        (sym all.0 ∙ is, all.1.gained)

    pub fault_told : result ≡ 3 → (it : Command) × Spells words it × (error : RunError) × (outcome_status (Err error) ≡ 3) × Gains (got before) (got now) (error_line (input_word it) error)
    fault_told is =
        let all = all_told 3 (λ e. cc e) (λ e. cc e) is in
        let three = three_is command outcome all.0 in
        (command, spelled, three.0, three.1, subst (Gains (got before) (got now)) three.2 all.1)

    four_outcome : result ≡ 4 → outcome ≡ Err (Mail ReadFault)
    four_outcome is = four_is outcome (all_told 4 (λ e. cc e) (λ e. cc e) is).0

    pub read_fault : result ≡ 4 → Rose sf sn × Gains (got before) (got now) []
    read_fault is =
        let fault = four_outcome is in
        (came.read_fault fault, subst (λ (o : Outcome). Gains (got before) (got now) (outcome_output command o)) fault (all_told 4 (λ e. cc e) (λ e. cc e) is).1)

    -- a fault of the source is no answer
    no_answer : IsAnswer 4 → ⊥
    no_answer (inl e) = cc e
    no_answer (inr (inl e)) = cc e
    no_answer (inr (inr e)) = cc e

    fault_four : outcome ≡ Err (Mail ReadFault) → result ≡ 4
    fault_four fault = elim told [
      | inr halted ↦ absurd (no_answer (subst (λ (o : Outcome). IsAnswer (outcome_status o)) fault halted.owed))
      | inl is ↦ elim is [
        | inl all ↦ all.0 ∙ ap outcome_status fault
        | inr part ↦ absurd (no_answer (subst (λ (o : Outcome). IsAnswer (outcome_status o)) fault part.1))
      ]
    ]

    pub no_read_fault : result ≢ 4 → sn ≡ sf
    no_read_fault other = came.no_fault (λ fault. other (fault_four fault))

    pub read_part : result ≡ 4 → (it : Command) × Spells words it × Lost left left_now (Takes family it (Err (Mail ReadFault)))
    read_part is = (command, spelled, subst (λ (o : Outcome). Lost left left_now (Takes family command o)) (four_outcome is) came.took)

    pub not_two : result ≢ 2
    not_two is = never_two outcome (all_told 2 (λ e. cc e) (λ e. cc e) is).0

    pub no_other : IsAnswer result ⊎ ((result ≡ 4) ⊎ ((result ≡ 5) ⊎ (result ≡ 6)))
    no_other = elim told [
      | inr halted ↦ inr (inr (inr halted.result_is))
      | inl is ↦ elim is [
        | inr part ↦ inr (inr (inl part.0))
        | inl all ↦ elim (kinds outcome) [
          | inl answer ↦ inl (subst IsAnswer (sym all.0) answer)
          | inr silent ↦ elim silent [
            | inl fault ↦ inr (inl (all.0 ∙ ap outcome_status fault))
            | inr wanted ↦ inr (inr (inr (all.0 ∙ ap outcome_status wanted)))
          ]
        ]
      ]
    ]

-- want of memory is told without a byte, but by `seal`
six_told : {W : Type 0} (got : W → Option (List ℕ)) (faults : W → ℕ) (plan : W → List ℕ) (before now : W) (result : ℕ) (command : Command) (outcome : Outcome)
    → IsTold got faults plan before now result (outcome_status outcome) (outcome_output command outcome) → result ≡ 6 → Gains (got before) (got now) []
six_told got faults plan before now result command outcome (inl all) six =
    let memory = six_is outcome (sym all.0 ∙ six) in
    subst (λ (o : Outcome). Gains (got before) (got now) (outcome_output command o)) memory all.1.gained
six_told got faults plan before now result command outcome (inr part) six = let five = part.0 in absurd (omega (arith, six, five))

pub memory : {W : Type 0} (got : W → Option (List ℕ)) (faults : W → ℕ) (plan : W → List ℕ) (before now : W) (result : ℕ) (words : List (List ℕ)) (command : Command) (outcome : Outcome) → Spells words command
    → Tells command got faults plan before now result (outcome_status outcome) (outcome_output command outcome) → result ≡ 6 → ((suite : SuiteName) → Spells words (Seal suite) → ⊥) → Gains (got before) (got now) []
memory got faults plan before now result words (Open suite budget) outcome spelled tells six none = six_told got faults plan before now result (Open suite budget) outcome tells six
memory got faults plan before now result words (Key set) outcome spelled tells six none = six_told got faults plan before now result (Key set) outcome tells six
memory got faults plan before now result words (Gen count) outcome spelled tells six none = six_told got faults plan before now result (Gen count) outcome tells six
memory got faults plan before now result words (Seal suite) outcome spelled tells six none = absurd (none suite spelled)
