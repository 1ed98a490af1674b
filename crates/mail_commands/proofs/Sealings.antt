-- A run of `seal`: what it came to, and told.
use Rattle.std.proofs.Common.{◌≡◌, ◌≢◌, ◌⊎◌, ℕ, List, [], ◌∷◌, ◌++◌, Option, Some, None, Result, Ok, Err, refl, sym, ap, subst, ◌∙◌, inl, inr, arith}
use Rattle.std.specs.Prelude.{IfSome}
use Rattle.rand_core.specs.Stream.{Stream, fill_bytes}
use Rattle.std.proofs.lemmas.List.{append-nil}
use Rattle.kem_hash.specs.Family.{Family}
use Rattle.ml_kem.specs.Keys.{IsEncapsulationKey, rho_part}
use Rattle.ml_kem.specs.Matrix.{matrix}
use Rattle.ml_kem.specs.Parameters.{Parameters}
use Rattle.hpke.specs.Schedule.{KdfAlgorithm, AeadAlgorithm}
use Rattle.age_format.specs.Outside.{Gains, GainsPart, Rose, Wrote, WrotePart}
use Rattle.kem_mail.specs.Sealing.{SealMeaning, Sealer, first_unsealed, lattice_sealer, mail_stanzas}
use Rattle.kem_mail.specs.Sent.{AreStanzas, RanOutAt, SealsMail, Untouched}
use Rattle.kem_mail.specs.Taken.{Lost}
use Rattle.kem_mail.proofs.Wholes.{ran_out_whole}
use Rattle.generated_mail.specs.Made.{source_stream}
use Rattle.kem_mail.specs.declared.error.MailError.TheVariants.{NoMemory, ReadFault, XofExhausted}
use Rattle.kem_mail.specs.declared.error.SealMailError.{SealMailError}
use Rattle.kem_mail.specs.declared.error.SealMailError.TheVariants.{NoMemory as SealNoMemory, XofExhausted as SealExhausted, SealError, WriteFault}
use Rattle.mail_commands.specs.Command.{parameters, kdf_algorithm, aead_algorithm, aead_seal}
use Rattle.mail_commands.specs.Due.{EndsWith, IsAnswer, IsInput, Outcome, Seals, mail_outcome, outcome_output, outcome_status}
use Rattle.mail_commands.specs.Input.{IsSealInput}
use Rattle.mail_commands.specs.Lines.{error_line}
use Rattle.mail_commands.specs.Run.{CameTo, IsTold, Ran}
use Rattle.mail_commands.specs.Taken.{Takes}
use Rattle.mail_commands.specs.private.Sealing.{FrontRan, HasMatrix, IsSealTold, MailRan, SealRan, sealed_text}
use Rattle.mail_commands.specs.declared.command.Command.TheVariants.{Seal}
use Rattle.mail_commands.specs.declared.command.SuiteName.{SuiteName}
use Rattle.mail_commands.specs.declared.error.RunError.TheVariants.{InvalidKey, Mail}
use Rattle.mail_commands.specs.declared.sealing.SealFault.{SealFault}
use Rattle.mail_commands.specs.declared.sealing.SealFault.TheVariants.{InvalidKey as FaultInvalidKey, Mail as FaultMail}
use Rattle.mail_commands.proofs.Dues.{seals_end}
use Rattle.mail_commands.proofs.Inputs.{Lost_weaker}
use Rattle.mail_commands.proofs.Runs.{all_taken}
use Rattle.mail_commands.proofs.SourceBytes.{source_bytes}
use Rattle.age_format.proofs.Writing.{wrote_then}

-- ---- what sealing comes to

module _ (set : Parameters) (family : Family) (kdf : KdfAlgorithm) (aead : AeadAlgorithm) (meaning : SealMeaning) (key info source : List ℕ) (messages : List (List ℕ)) where
  abbrev Comes : Outcome → Type 0
  Comes o = Seals set family kdf aead meaning key info source messages o

  abbrev text : List ℕ
  text = sealed_text set family kdf aead meaning key info source messages

  some_matrix : {A : Type 0} (o : Option A) → o ≢ None → (t : List ℕ) → Ok (t ∷ []) ≡ mail_outcome o t
  some_matrix None some t = absurd (some refl)
  some_matrix (Some a) some t = refl

  no_matrix : {A : Type 0} (o : Option A) → o ≡ None → (t : List ℕ) → Err (Mail XofExhausted) ≡ mail_outcome o t
  no_matrix None none t = refl
  no_matrix (Some a) none t = absurd (cc none)

  pub comes_text : IsEncapsulationKey set key → HasMatrix set family kdf aead meaning key info source messages → Comes (Ok (text ∷ []))
  unfolding sealed_text
  comes_text is has = record { refused = λ never. absurd (never is); sealed = λ _. some_matrix (matrix family set.k (rho_part set key)) has _ }

  pub comes_exhausted : IsEncapsulationKey set key → matrix family set.k (rho_part set key) ≡ None → Comes (Err (Mail XofExhausted))
  comes_exhausted is none = record { refused = λ never. absurd (never is); sealed = λ _. no_matrix (matrix family set.k (rho_part set key)) none _ }

  pub comes_invalid : (IsEncapsulationKey set key → ⊥) → Comes (Err InvalidKey)
  comes_invalid never = record { refused = λ _. refl; sealed = λ is. absurd (never is) }

  -- ---- of what sealing to the key answered

  abbrev sealer : Sealer
  sealer = lattice_sealer set family kdf aead meaning key info

  there_or_not : {A : Type 0} (o : Option A) → (o ≡ None) ⊎ (o ≢ None)
  there_or_not None = inl refl
  there_or_not (Some a) = inr (λ e. cc e)

  module _ {W : Type 0} (got : W → Option (List ℕ)) (faults : W → ℕ) (plan : W → List ℕ) (before now : W) (rest : Stream)
      (untouched : matrix family set.k (rho_part set key) ≡ None → Untouched got faults plan before now sealer messages (source_stream source) rest) (all : first_unsealed sealer messages (fill_bytes 32 (source_stream source)).0 ≡ None) where
    abbrev Mailed : {X : Type 0} → Result X SealMailError → Type 0
    Mailed result = MailRan set family kdf aead meaning key info source messages got faults plan before now result

    ran_out : RanOutAt got faults plan before now (mail_stanzas sealer messages (fill_bytes 32 (source_stream source)).0) (fill_bytes 32 (source_stream source)).1 rest → FrontRan set family kdf aead meaning key info source messages got faults plan before now
    unfolding sealed_text
    ran_out r =
        let stopped = ran_out_whole got faults plan before now (mail_stanzas sealer messages (fill_bytes 32 (source_stream source)).0) (fill_bytes 32 (source_stream source)).1 rest (source_bytes source) r in
        record { part = stopped.part; rest = stopped.more; whole = stopped.whole; are = stopped.are; wrote = stopped.wrote }

    pub mail_ran : {X : Type 0} (result : Result X SealMailError) → SealsMail got faults plan before now sealer messages (source_stream source) rest result
        → (result ≡ Err SealExhausted → matrix family set.k (rho_part set key) ≡ None) → (matrix family set.k (rho_part set key) ≡ None → (result ≡ Err SealExhausted) ⊎ (result ≡ Err SealNoMemory)) → Mailed result
    unfolding sealed_text
    mail_ran (Ok x) sealed has never = ((λ none. elim (never none) [ inl e ↦ cc e | inr e ↦ cc e ]), sealed.sent.wrote)
    mail_ran (Err SealExhausted) sealed has never = (has refl, sealed.wrote)
    mail_ran (Err SealNoMemory) (inl nothing) has never = inl nothing.wrote
    mail_ran (Err SealNoMemory) (inr r) has never = elim (there_or_not (matrix family set.k (rho_part set key))) [
      | inl none ↦ inl (untouched none).wrote
      | inr some ↦ inr (some, ran_out r)
    ]
    mail_ran (Err WriteFault) sealed has never = ((λ none. elim (never none) [ inl e ↦ cc e | inr e ↦ cc e ]), sealed.wrote)
    mail_ran (Err (SealError number)) sealed has never = (let one : Some number ≡ None = sym sealed.sealed ∙ all in cc one)

    abbrev Sealed : {X : Type 0} → Result X SealFault → Type 0
    Sealed result = SealRan set family kdf aead meaning key info source messages got faults plan before now result

    -- the bytes of a key, of which the key is made
    pub of_error : (X : Type 0) (error : SealMailError) → IsEncapsulationKey set key → Mailed {X = X} (Err error) → Sealed {X = X} (Err (FaultMail error))
    of_error X SealExhausted is ran = (is, ran)
    of_error X SealNoMemory is (inl nothing) = inl nothing
    of_error X SealNoMemory is (inr (has, front)) = inr (is, has, front)
    of_error X WriteFault is ran = (is, ran)
    of_error X (SealError number) is ran = (is, ran)

-- ---- what was taken

module _ (family : Family) (suite : SuiteName) (left now : Option (List ℕ)) (faults faults_now : ℕ) (key info source : List ℕ) (messages : List (List ℕ))
    (taken : Lost left now (λ t. IsSealInput (parameters suite.set).ek_size t key info source messages)) (whole : IfSome left (λ _. now ≡ Some [])) (calm : faults_now ≡ faults) where
  abbrev Sealing : Outcome → Type 0
  Sealing o = Seals (parameters suite.set) family (kdf_algorithm suite.kdf) (aead_algorithm suite.aead) (aead_seal suite.aead) key info source messages o

  input_end : (o : Outcome) → Sealing o → (left' : Option (List ℕ)) → Lost left' now (λ t. IsSealInput (parameters suite.set).ek_size t key info source messages) → IfSome left' (λ _. now ≡ Some [])
      → IfSome left' (λ t. EndsWith family (Seal suite) t o)
  input_end o seals None l w = tt
  input_end o seals (Some t) (bytes, rest, e, is, input) w =
      seals_end family suite t key info source messages (subst (λ (x : List ℕ). IsSealInput (parameters suite.set).ek_size x key info source messages) (all_taken t bytes rest now e is w) input) o seals

  -- an outcome that says something of the whole input
  came : (o : Outcome) → IfSome left (λ t. IsAnswer (outcome_status o) → EndsWith family (Seal suite) t o) → ((bytes : List ℕ) → IsInput (Seal suite) bytes → Takes family (Seal suite) o bytes) → o ≢ Err (Mail ReadFault)
      → CameTo family (Seal suite) left now faults faults_now o
  came o ends takes other = record {
    ends_with = ends;
    took = Lost_weaker left now (λ t. IsSealInput (parameters suite.set).ek_size t key info source messages) (Takes family (Seal suite) o) taken (λ bytes input. takes bytes (key, info, source, messages, input));
    at_end = λ _. whole;
    read_fault = λ is. absurd (other is);
    no_fault = λ _. calm;
  }

  if_answer : (o : Outcome) (left' : Option (List ℕ)) → IfSome left' (λ t. EndsWith family (Seal suite) t o) → IfSome left' (λ t. IsAnswer (outcome_status o) → EndsWith family (Seal suite) t o)
  if_answer o None h = tt
  if_answer o (Some t) h = λ answer. h

  came_ok : (t : List ℕ) → Sealing (Ok (t ∷ [])) → CameTo family (Seal suite) left now faults faults_now (Ok (t ∷ []))
  came_ok t seals = came (Ok (t ∷ [])) (if_answer (Ok (t ∷ [])) left (input_end (Ok (t ∷ [])) seals left taken whole)) (λ bytes is. is) (λ e. cc e)

  came_invalid : Sealing (Err InvalidKey) → CameTo family (Seal suite) left now faults faults_now (Err InvalidKey)
  came_invalid seals = came (Err InvalidKey) (if_answer (Err InvalidKey) left (input_end (Err InvalidKey) seals left taken whole)) (λ bytes is. is) (λ e. cc e)

  came_exhausted : Sealing (Err (Mail XofExhausted)) → CameTo family (Seal suite) left now faults faults_now (Err (Mail XofExhausted))
  came_exhausted seals = came (Err (Mail XofExhausted)) (if_answer (Err (Mail XofExhausted)) left (input_end (Err (Mail XofExhausted)) seals left taken whole)) (λ bytes is. inr is) (λ e. cc e)

  silent : (left' : Option (List ℕ)) → IfSome left' (λ t. IsAnswer 6 → EndsWith family (Seal suite) t (Err (Mail NoMemory)))
  silent None = tt
  silent (Some t) = λ answer. absurd (no_six answer)
    where
      no_six : IsAnswer 6 → ⊥
      no_six (inl e) = cc e
      no_six (inr (inl e)) = cc e
      no_six (inr (inr e)) = cc e

  came_memory : CameTo family (Seal suite) left now faults faults_now (Err (Mail NoMemory))
  came_memory = came (Err (Mail NoMemory)) (silent left) (λ bytes is. inr is) (λ e. cc e)

  -- ---- what was told

  module _ {W : Type 0} (got : W → Option (List ℕ)) (sink_faults : W → ℕ) (plan : W → List ℕ) (before mid after : W) (result : ℕ) where
    abbrev SealedText : List ℕ
    SealedText = sealed_text (parameters suite.set) family (kdf_algorithm suite.kdf) (aead_algorithm suite.aead) (aead_seal suite.aead) key info source messages

    abbrev Run : Type 0
    Run = Ran family (Seal suite) left now faults faults_now got sink_faults plan before after result

    -- a line behind nothing
    line_told : (status : ℕ) (output : List ℕ) → Wrote got sink_faults plan before mid [] → IsTold got sink_faults plan mid after result status output → IsTold got sink_faults plan before after result status output
    line_told status output nothing (inl (is, wrote)) = inl (is, wrote_then got sink_faults plan before mid after [] output nothing wrote)
    line_told status output nothing (inr (is, answer, part)) = inr (is, answer, part_behind (got before) nothing.gained)
      where
        part_told : (had : Option (List ℕ)) → Gains had (got mid) [] → GainsPart (got mid) (got after) output → GainsPart had (got after) output
        part_told None g p = tt
        part_told (Some h) g p = subst (λ (o : Option (List ℕ)). GainsPart o (got after) output) (g ∙ ap Some (append-nil h)) p

        part_behind : (had : Option (List ℕ)) → Gains had (got mid) [] → WrotePart got sink_faults plan before after output
        part_behind had g = record {
          gained = part_told (got before) nothing.gained part.gained;
          fault = subst (λ (n : ℕ). Rose n (sink_faults after)) nothing.no_fault part.fault;
          no_fall = (let fall = part.no_fall in let same = nothing.no_fault in omega (arith, fall, same));
          same_plan = part.same_plan ∙ nothing.same_plan;
        }

    ok_ran : Sealing (Ok (SealedText ∷ [])) → Wrote got sink_faults plan before mid SealedText → (result ≡ 0) → after ≡ mid → Run
    ok_ran seals wrote zero same = record {
      outcome = Ok (SealedText ∷ []);
      came = came_ok SealedText seals;
      told = inl (inl (zero, subst (Wrote got sink_faults plan before after) (sym (append-nil SealedText)) (subst (λ (w : W). Wrote got sink_faults plan before w SealedText) (sym same) wrote)));
    }

    fault_ran : Sealing (Ok (SealedText ∷ [])) → WrotePart got sink_faults plan before mid SealedText → (result ≡ 5) → after ≡ mid → Run
    fault_ran seals wrote five same = record {
      outcome = Ok (SealedText ∷ []);
      came = came_ok SealedText seals;
      told = inl (inr (five, inl refl, subst (WrotePart got sink_faults plan before after) (sym (append-nil SealedText)) (subst (λ (w : W). WrotePart got sink_faults plan before w SealedText) (sym same) wrote)));
    }

    halted_ran : Sealing (Ok (SealedText ∷ [])) → (part rest : List ℕ) → SealedText ≡ part ++ rest → AreStanzas part → Wrote got sink_faults plan before mid part → (result ≡ 6) → after ≡ mid → Run
    halted_ran seals part rest whole_text are wrote six same = record {
      outcome = Ok (SealedText ∷ []);
      came = came_ok SealedText seals;
      told = inr (record {
        result_is = six;
        owed = inl refl;
        part = part;
        rest = rest;
        whole = append-nil SealedText ∙ whole_text;
        are = are;
        wrote = subst (λ (w : W). Wrote got sink_faults plan before w part) (sym same) wrote;
      });
    }

    memory_ran : Wrote got sink_faults plan before mid [] → (result ≡ 6) → after ≡ mid → Run
    memory_ran wrote six same = record {
      outcome = Err (Mail NoMemory);
      came = came_memory;
      told = inl (inl (six, subst (λ (w : W). Wrote got sink_faults plan before w []) (sym same) wrote));
    }

    abbrev Text : {X : Type 0} → Result X SealFault → Type 0
    Text sealed = SealRan (parameters suite.set) family (kdf_algorithm suite.kdf) (aead_algorithm suite.aead) (aead_seal suite.aead) key info source messages got sink_faults plan before mid sealed

    comes : IsEncapsulationKey (parameters suite.set) key → HasMatrix (parameters suite.set) family (kdf_algorithm suite.kdf) (aead_algorithm suite.aead) (aead_seal suite.aead) key info source messages → Sealing (Ok (SealedText ∷ []))
    comes is has = comes_text (parameters suite.set) family (kdf_algorithm suite.kdf) (aead_algorithm suite.aead) (aead_seal suite.aead) key info source messages is has

    pub seal_ran : {X : Type 0} (sealed : Result X SealFault) → Text sealed → IsSealTold got sink_faults plan mid after result sealed → Run
    seal_ran (Ok x) (is, (has, wrote)) (zero, same) = ok_ran (comes is has) wrote zero same
    seal_ran (Err FaultInvalidKey) (never, wrote) told = record {
      outcome = Err InvalidKey;
      came = came_invalid (comes_invalid (parameters suite.set) family (kdf_algorithm suite.kdf) (aead_algorithm suite.aead) (aead_seal suite.aead) key info source messages never);
      told = inl (line_told 3 (error_line [] InvalidKey) wrote told);
    }
    seal_ran (Err (FaultMail SealNoMemory)) (inl wrote) (six, same) = memory_ran wrote six same
    seal_ran (Err (FaultMail SealNoMemory)) (inr (is, has, front)) (six, same) = halted_ran (comes is has) front.part front.rest front.whole front.are front.wrote six same
    seal_ran (Err (FaultMail SealExhausted)) (is, (none, wrote)) told = record {
      outcome = Err (Mail XofExhausted);
      came = came_exhausted (comes_exhausted (parameters suite.set) family (kdf_algorithm suite.kdf) (aead_algorithm suite.aead) (aead_seal suite.aead) key info source messages is none);
      told = inl (line_told 3 (error_line [] (Mail XofExhausted)) wrote told);
    }
    seal_ran (Err (FaultMail (SealError number))) (is, none) told = absurd none
    seal_ran (Err (FaultMail WriteFault)) (is, (has, wrote)) (five, same) = fault_ran (comes is has) wrote five same

-- ---- a run whose input was refused

pub refused_ran : (family : Family) (suite : SuiteName) (left now : Option (List ℕ)) (faults faults_now : ℕ) (o : Outcome) (came : CameTo family (Seal suite) left now faults faults_now o)
    {W : Type 0} (got : W → Option (List ℕ)) (sink_faults : W → ℕ) (plan : W → List ℕ) (before after : W) (result : ℕ) → IsTold got sink_faults plan before after result (outcome_status o) (outcome_output (Seal suite) o)
    → Ran family (Seal suite) left now faults faults_now got sink_faults plan before after result
refused_ran family suite left now faults faults_now o came got sink_faults plan before after result told = record { outcome = o; came = came; told = inl told }
