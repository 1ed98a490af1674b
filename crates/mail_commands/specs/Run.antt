-- A run of a command: what it ended with, what it told, and what it took.
use Rattle.std.specs.Prelude.{◌≡◌, ◌≢◌, ℕ, List, [], ◌++◌, Option, Some, IfSome, Err, ◌⊎◌}
use Rattle.kem_hash.specs.Family.{Family}
use Rattle.age_format.specs.Outside.{Rose, Wrote, WrotePart}
use Rattle.mail_commands.specs.Due.{EndsWith, IsAnswer, Outcome, of_verdict, outcome_output, outcome_status}
use Rattle.kem_mail.specs.Mail.{Verdict}
use Rattle.kem_mail.specs.Sent.{AreStanzas}
use Rattle.kem_mail.specs.Taken.{Lost}
use Rattle.generated_mail.specs.Told.{Generates}
use Rattle.mail_commands.specs.Taken.{IsAtEnd, Takes}
use Rattle.mail_commands.specs.declared.command.Command.{Command}
use Rattle.mail_commands.specs.declared.command.Command.TheVariants.{Seal, Gen}
use Rattle.kem_mail.specs.declared.error.MailError.TheVariants.{NoMemory, ReadFault}
use Rattle.mail_commands.specs.declared.error.RunError.TheVariants.{Mail}

-- A run answered this status and told this output; or its sink failed at an output that is owed, which it
-- told a part of.
abbrev pub IsTold : {W : Type 0} → (W → Option (List ℕ)) → (W → ℕ) → (W → List ℕ) → W → W → ℕ → ℕ → List ℕ → Type 0
IsTold got faults plan before now result status output = ((result ≡ status) × Wrote got faults plan before now output)
    ⊎ ((result ≡ 5) × IsAnswer status × WrotePart got faults plan before now output)

-- Memory ran out for a run while it wrote: it told a part of an output that is owed, which is whole stanzas, and its
-- sink didn't fail.
pub record IsHalted {W : Type 0} (got : W → Option (List ℕ)) (faults : W → ℕ) (plan : W → List ℕ) (before now : W) (result status : ℕ) (output : List ℕ) : Type 0 where
  pub result_is : result ≡ 6
  pub owed : IsAnswer status
  pub part : List ℕ
  pub rest : List ℕ
  pub whole : output ≡ part ++ rest
  pub are : AreStanzas part
  pub wrote : Wrote got faults plan before now part

-- what a run of a command answered and told; only `seal` writes before all is made
abbrev pub Tells : Command → {W : Type 0} → (W → Option (List ℕ)) → (W → ℕ) → (W → List ℕ) → W → W → ℕ → ℕ → List ℕ → Type 0
Tells (Seal suite) got faults plan before now result status output = IsTold got faults plan before now result status output ⊎ IsHalted got faults plan before now result status output
Tells command got faults plan before now result status output = IsTold got faults plan before now result status output

-- What a run of a command did to its source, by an outcome: where the source tells its bytes and the
-- outcome is an answer, the command ends with it over them.
pub record CameTo (family : Family) (command : Command) (left left_now : Option (List ℕ)) (faults faults_now : ℕ) (outcome : Outcome) : Type 0 where
  pub ends_with : IfSome left (λ text. IsAnswer (outcome_status outcome) → EndsWith family command text outcome)
  pub took : Lost left left_now (Takes family command outcome)
  pub at_end : IsAtEnd command outcome → IfSome left (λ text. left_now ≡ Some [])
  pub read_fault : outcome ≡ Err (Mail ReadFault) → Rose faults faults_now
  pub no_fault : outcome ≢ Err (Mail ReadFault) → faults_now ≡ faults

-- A run of a command: it came to an outcome, and told it.
pub record Ran (family : Family) (command : Command) (left left_now : Option (List ℕ)) (faults faults_now : ℕ) {W : Type 0} (got : W → Option (List ℕ)) (sink_faults : W → ℕ) (plan : W → List ℕ) (before now : W) (result : ℕ) : Type 0 where
  pub outcome : Outcome
  pub came : CameTo family command left left_now faults faults_now outcome
  pub told : Tells command got sink_faults plan before now result (outcome_status outcome) (outcome_output command outcome)

-- A run of `gen`: what is told for its number of messages, whatever the source holds, or memory ran out; and it told
-- that.
pub record RanGen (family : Family) (count : ℕ) {W : Type 0} (got : W → Option (List ℕ)) (sink_faults : W → ℕ) (plan : W → List ℕ) (before now : W) (result : ℕ) : Type 0 where
  pub verdict : Verdict
  pub comes : (verdict ≡ Err NoMemory) ⊎ Generates family count verdict
  pub told : IsTold got sink_faults plan before now result (outcome_status (of_verdict verdict)) (outcome_output (Gen count) (of_verdict verdict))
