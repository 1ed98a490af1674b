-- A run of `gen`: what it told.
use Rattle.std.proofs.Common.{◌≡◌, ℕ, List, [], ◌∷◌, Option, Err, sym, ap, subst, ◌∙◌, ◌⊎◌, inl, inr}
use Rattle.std.specs.Prelude.{Ok}
use Rattle.std.proofs.lemmas.List.{append-nil}
use Rattle.kem_hash.specs.Family.{Family}
use Rattle.kem_mail.specs.declared.error.MailError.{MailError}
use Rattle.kem_mail.specs.declared.error.MailError.TheVariants.{NoMemory}
use Rattle.generated_mail.specs.Told.{Generates}
use Rattle.mail_commands.specs.Command.{input_word}
use Rattle.mail_commands.specs.Due.{of_verdict, outcome_status}
use Rattle.mail_commands.specs.Lines.{error_line}
use Rattle.mail_commands.specs.Run.{IsTold, Ran, RanGen}
use Rattle.mail_commands.specs.declared.command.Command.{Command}
use Rattle.mail_commands.specs.declared.command.Command.TheVariants.{Gen}
use Rattle.mail_commands.specs.declared.error.RunError.TheVariants.{Mail}
use Rattle.mail_commands.proofs.Runs.{came_gen}

module _ (family : Family) (count : ℕ) {W : Type 0} (got : W → Option (List ℕ)) (sink_faults : W → ℕ) (plan : W → List ℕ) (before now : W) (result : ℕ) where
  abbrev Run : Type 0
  Run = RanGen family count got sink_faults plan before now result

  -- the lines were told
  pub gen_told : (text : List ℕ) → Generates family count (Ok (text ∷ [])) → IsTold got sink_faults plan before now result 0 text → Run
  gen_told text made told = record {
    verdict = Ok (text ∷ []);
    comes = inr made;
    told = subst (IsTold got sink_faults plan before now result 0) (sym (append-nil text)) told;
  }

  -- nothing was summed up
  pub gen_refused : (e : MailError) → (e ≡ NoMemory) ⊎ Generates family count (Err e) → IsTold got sink_faults plan before now result (outcome_status (Err (Mail e))) (error_line (input_word (Gen count)) (Mail e)) → Run
  gen_refused e comes told = record {
    verdict = Err e;
    comes = elim comes [ inl memory ↦ inl (ap Err memory) | inr made ↦ inr made ];
    told = told;
  }

  -- as a run of a command that left its source as it was
  pub gen_ran : Run → (left : Option (List ℕ)) (faults : ℕ) → Ran family (Gen count) left left faults faults got sink_faults plan before now result
  gen_ran run left faults = record { outcome = of_verdict run.verdict; came = came_gen family count run.verdict run.comes left faults; told = run.told }

-- the number of a command is one
pub same_count : (command : Command) (n m : ℕ) → command ≡ Gen n → command ≡ Gen m → n ≡ m
same_count command n m one other = let both : Gen n ≡ Gen m = sym one ∙ other in cc both
