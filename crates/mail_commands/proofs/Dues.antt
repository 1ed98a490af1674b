-- Words and a text have one due answer.
use Rattle.std.proofs.Common.{◌≡◌, ℕ, List, [], ◌∷◌, ◌++◌, Option, Some, None, Err, get_or, refl, sym, ap, subst, ◌∙◌, ◌⊎◌, inl, inr, arith}
use Rattle.std.specs.Prelude.{Ok, codes, decimal}
use Rattle.std.proofs.lemmas.Fmt.{decimal_injective}
use Rattle.kem_hash.specs.Family.{Family}
use Rattle.ml_kem.specs.Keys.{key_of, rho_part, Key as KeyRecord}
use Rattle.ml_kem.specs.Matrix.{matrix}
use Rattle.ml_kem.specs.Parameters.{Parameters}
use Rattle.hpke.specs.Schedule.{KdfAlgorithm, AeadAlgorithm}
use Rattle.kem_mail.specs.Sealing.{SealMeaning}
use Rattle.mail_commands.specs.Command.{Spells, words_of, set_word, kdf_word, aead_word, parameters, kdf_algorithm, aead_algorithm, aead_open, aead_seal}
use Rattle.mail_commands.specs.Input.{IsHead, IsHeadText, IsSeedLine, IsSealInput}
use Rattle.mail_commands.specs.Lines.{no_command_line}
use Rattle.kem_mail.specs.Mail.{IsVerdict, OpensByKey, SameBodies, Verdict}
use Rattle.mail_commands.specs.Due.{Due, ComesTo, EndsWith, Ends, Fails, IsAnswer, IsInput, Outcome, Seals, key_verdict, mail_outcome, of_verdict, outcome_output, outcome_status}
use Rattle.mail_commands.specs.declared.command.Command.{Command}
use Rattle.mail_commands.specs.declared.command.Command.TheVariants.{Open, Key, Seal, Gen}
use Rattle.mail_commands.specs.declared.command.SuiteName.{SuiteName}
use Rattle.mail_commands.specs.declared.command.SetName.{SetName}
use Rattle.mail_commands.specs.declared.command.SetName.TheVariants.{Set512, Set768, Set1024}
use Rattle.mail_commands.specs.declared.command.KdfName.{KdfName}
use Rattle.mail_commands.specs.declared.command.KdfName.TheVariants.{Sha256, Sha384, Sha512}
use Rattle.mail_commands.specs.declared.command.AeadName.{AeadName}
use Rattle.mail_commands.specs.declared.command.AeadName.TheVariants.{Aes128, Aes256}
use Rattle.kem_mail.specs.declared.error.MailError.TheVariants.{NoMemory, ReadFault}
use Rattle.mail_commands.specs.declared.error.RunError.TheVariants.{Place, Ended, InvalidKey, Mail}
use Rattle.mail_commands.proofs.Inputs.{one_head_end, one_head_value, one_input_end, one_line_end, one_line_value, one_place, fails_no_part, some_head, some_line, whole_no_fails, whole_no_part}
use Rattle.mail_commands.proofs.Joins.{Begins-whole, one_stop, stops_no_begin}
use Rattle.mail_commands.proofs.SealInputs.{one_key, one_info, one_source, one_message_list, some_seal_input}
use Rattle.mail_commands.proofs.SealKeys.{is_key}
use Rattle.mail_commands.proofs.Runs.{ends_verdict}
use Rattle.generated_mail.proofs.Mails.{same_told, some_told, told_verdict}
use Rattle.kem_mail.proofs.Keyed.{by_key_verdict, same_bodies_by_key, same_by_key, some_by_key}

-- ---- words

set_word-injective : (s t : SetName) → set_word s ≡ set_word t → s ≡ t
set_word-injective Set512 Set512 e = refl
set_word-injective Set512 Set768 e = absurd (let d : 53 ≡ 55 = ap (λ (l : List ℕ). get_or l 0 0) e in omega (arith, d))
set_word-injective Set512 Set1024 e = absurd (let d : 53 ≡ 49 = ap (λ (l : List ℕ). get_or l 0 0) e in omega (arith, d))
set_word-injective Set768 Set512 e = absurd (let d : 55 ≡ 53 = ap (λ (l : List ℕ). get_or l 0 0) e in omega (arith, d))
set_word-injective Set768 Set768 e = refl
set_word-injective Set768 Set1024 e = absurd (let d : 55 ≡ 49 = ap (λ (l : List ℕ). get_or l 0 0) e in omega (arith, d))
set_word-injective Set1024 Set512 e = absurd (let d : 49 ≡ 53 = ap (λ (l : List ℕ). get_or l 0 0) e in omega (arith, d))
set_word-injective Set1024 Set768 e = absurd (let d : 49 ≡ 55 = ap (λ (l : List ℕ). get_or l 0 0) e in omega (arith, d))
set_word-injective Set1024 Set1024 e = refl

kdf_word-injective : (s t : KdfName) → kdf_word s ≡ kdf_word t → s ≡ t
kdf_word-injective Sha256 Sha256 e = refl
kdf_word-injective Sha256 Sha384 e = absurd (let d : 50 ≡ 51 = ap (λ (l : List ℕ). get_or l 3 0) e in omega (arith, d))
kdf_word-injective Sha256 Sha512 e = absurd (let d : 50 ≡ 53 = ap (λ (l : List ℕ). get_or l 3 0) e in omega (arith, d))
kdf_word-injective Sha384 Sha256 e = absurd (let d : 51 ≡ 50 = ap (λ (l : List ℕ). get_or l 3 0) e in omega (arith, d))
kdf_word-injective Sha384 Sha384 e = refl
kdf_word-injective Sha384 Sha512 e = absurd (let d : 51 ≡ 53 = ap (λ (l : List ℕ). get_or l 3 0) e in omega (arith, d))
kdf_word-injective Sha512 Sha256 e = absurd (let d : 53 ≡ 50 = ap (λ (l : List ℕ). get_or l 3 0) e in omega (arith, d))
kdf_word-injective Sha512 Sha384 e = absurd (let d : 53 ≡ 51 = ap (λ (l : List ℕ). get_or l 3 0) e in omega (arith, d))
kdf_word-injective Sha512 Sha512 e = refl

aead_word-injective : (s t : AeadName) → aead_word s ≡ aead_word t → s ≡ t
aead_word-injective Aes128 Aes128 e = refl
aead_word-injective Aes128 Aes256 e = absurd (let d : 49 ≡ 50 = ap (λ (l : List ℕ). get_or l 3 0) e in omega (arith, d))
aead_word-injective Aes256 Aes128 e = absurd (let d : 50 ≡ 49 = ap (λ (l : List ℕ). get_or l 3 0) e in omega (arith, d))
aead_word-injective Aes256 Aes256 e = refl

-- equal in three places
ap₃ : {A B C D : Type 0} (f : A → B → C → D) {a a' : A} {b b' : B} {c c' : C} → a ≡ a' → b ≡ b' → c ≡ c' → f a b c ≡ f a' b' c'
ap₃ f e g h = rw (e, g, h) refl

-- lists with one more are equal in both parts
heads : (x y : List ℕ) (xs ys : List (List ℕ)) → x ∷ xs ≡ y ∷ ys → (x ≡ y) × (xs ≡ ys)
heads x y xs ys e = (cc, cc)

same_suite : (s t : SuiteName) → s.set ≡ t.set → s.kdf ≡ t.kdf → s.aead ≡ t.aead → s ≡ t
same_suite s t e f g = ap₃ (λ (a : SetName) (b : KdfName) (c : AeadName). record { set = a; kdf = b; aead = c }) e f g

words_of-injective : (c d : Command) (words : List (List ℕ)) → Spells words c → Spells words d → words_of c ≡ words_of d → c ≡ d
words_of-injective (Open s b) (Open t d) words h k e =
    let sets = heads (codes "open") (codes "open") _ _ e in
    let kdfs = heads (set_word s.set) (set_word t.set) _ _ sets.1 in
    let aeads = heads (kdf_word s.kdf) (kdf_word t.kdf) _ _ kdfs.1 in
    let budgets = heads (aead_word s.aead) (aead_word t.aead) _ _ aeads.1 in
    let numbers = heads (decimal b) (decimal d) [] [] budgets.1 in
    let suites : s ≡ t = same_suite s t (set_word-injective s.set t.set kdfs.0) (kdf_word-injective s.kdf t.kdf aeads.0) (aead_word-injective s.aead t.aead budgets.0) in
    let same : b ≡ d = let p = h.is_command.1 in let q = k.is_command.1 in decimal_injective b d (omega (arith, p)) (omega (arith, q)) numbers.0 in
    rw (suites, same) refl
words_of-injective (Open s b) (Key t) words h k e = absurd cc
words_of-injective (Open s b) (Seal t) words h k e = absurd cc
words_of-injective (Key s) (Open t d) words h k e = absurd cc
words_of-injective (Key s) (Seal t) words h k e = absurd cc
words_of-injective (Seal s) (Open t d) words h k e = absurd cc
words_of-injective (Seal s) (Key t) words h k e = absurd cc
words_of-injective (Open s b) (Gen d) words h k e = absurd cc
words_of-injective (Key s) (Gen d) words h k e = absurd (let different = heads (codes "key") (codes "gen") _ _ e in let d : 107 ≡ 103 = ap (λ (l : List ℕ). get_or l 0 0) different.0 in omega (arith, d))
words_of-injective (Seal s) (Gen d) words h k e = absurd cc
words_of-injective (Gen b) (Open t d) words h k e = absurd cc
words_of-injective (Gen b) (Key t) words h k e = absurd (let different = heads (codes "gen") (codes "key") _ _ e in let d : 103 ≡ 107 = ap (λ (l : List ℕ). get_or l 0 0) different.0 in omega (arith, d))
words_of-injective (Gen b) (Seal t) words h k e = absurd cc
words_of-injective (Gen b) (Gen d) words h k e =
    let numbers = heads (decimal b) (decimal d) [] [] (heads (codes "gen") (codes "gen") _ _ e).1 in
    ap Gen (let p = h.is_command in let q = k.is_command in decimal_injective b d (omega (arith, p)) (omega (arith, q)) numbers.0)
words_of-injective (Seal s) (Seal t) words h k e =
    let sets = heads (codes "seal") (codes "seal") _ _ e in
    let kdfs = heads (set_word s.set) (set_word t.set) _ _ sets.1 in
    let aeads = heads (kdf_word s.kdf) (kdf_word t.kdf) _ _ kdfs.1 in
    let last = heads (aead_word s.aead) (aead_word t.aead) [] [] aeads.1 in
    ap Seal (same_suite s t (set_word-injective s.set t.set kdfs.0) (kdf_word-injective s.kdf t.kdf aeads.0) (aead_word-injective s.aead t.aead last.0))
words_of-injective (Key s) (Key t) words h k e = ap Key (set_word-injective s t (heads (set_word s) (set_word t) [] [] (heads (codes "key") (codes "key") _ _ e).1).0)

-- words spell one command
pub one_command : (words : List (List ℕ)) (c d : Command) → Spells words c → Spells words d → c ≡ d
one_command words c d h k = words_of-injective c d words h k (sym h.words_are ∙ k.words_are)

-- ---- what a command comes to

-- the input of `seal` comes to one outcome
module _ (set : Parameters) (family : Family) (kdf : KdfAlgorithm) (aead : AeadAlgorithm) (meaning : SealMeaning) where
  same_seals : (key info source : List ℕ) (messages : List (List ℕ)) (o p : Outcome) → Seals set family kdf aead meaning key info source messages o → Seals set family kdf aead meaning key info source messages p → o ≡ p
  same_seals key info source messages o p one other = elim (is_key set key) [
    | inl is ↦ one.sealed is ∙ sym (other.sealed is)
    | inr never ↦ one.refused never ∙ sym (other.refused never)
  ]

  some_seals : (key info source : List ℕ) (messages : List (List ℕ)) → (o : Outcome) × Seals set family kdf aead meaning key info source messages o
  some_seals key info source messages = elim (is_key set key) [
    | inl is ↦ (_, record { refused = λ never. absurd (never is); sealed = λ _. refl })
    | inr never ↦ (Err InvalidKey, record { refused = λ _. refl; sealed = λ is. absurd (never is) })
  ]

  mail_answer : {A : Type 0} (o : Option A) (text : List ℕ) → IsAnswer (outcome_status (mail_outcome o text))
  mail_answer None text = inr (inr refl)
  mail_answer (Some a) text = inl refl

  seals_answer : (key info source : List ℕ) (messages : List (List ℕ)) (o : Outcome) → Seals set family kdf aead meaning key info source messages o → IsAnswer (outcome_status o)
  seals_answer key info source messages o seals = elim (is_key set key) [
    | inl is ↦ subst (λ (x : Outcome). IsAnswer (outcome_status x)) (sym (seals.sealed is)) (mail_answer (matrix family set.k (rho_part set key)) _)
    | inr never ↦ inr (inr (ap outcome_status (seals.refused never)))
  ]

  -- the same of equal parts
  seals_of : (key key' info info' source source' : List ℕ) (messages messages' : List (List ℕ)) (o : Outcome) → key ≡ key' → info ≡ info' → source ≡ source' → messages ≡ messages'
      → Seals set family kdf aead meaning key' info' source' messages' o → Seals set family kdf aead meaning key info source messages o
  seals_of key key' info info' source source' messages messages' o a b c d h = rw (a, b, c, d) h

-- a command comes to one outcome over a text
pub same_comes : (family : Family) (command : Command) (text : List ℕ) (o p : Outcome) → ComesTo family command text o → ComesTo family command text p → o ≡ p
same_comes family (Open suite budget) text o p (head, seed, info, rest, v, whole, is, opens, same) (head', seed', info', rest', w, whole', is', opens', same') =
    let both = one_head_end head head' rest rest' (seed, info, is) (seed', info', is') (sym whole ∙ whole') in
    let values = one_head_value head seed info seed' info' is (subst (λ (t : List ℕ). IsHead t seed' info') (sym both.0) is') in
    let verdicts = same_by_key (parameters suite.set) family (kdf_algorithm suite.kdf) (aead_algorithm suite.aead) (aead_open suite.aead) seed info rest budget v w opens
    (rw (values.0, values.1, both.1) opens') in
    same ∙ (ap of_verdict verdicts ∙ sym same')
same_comes family (Key set) text o p (line, seed, rest, whole, is, comes) (line', seed', rest', whole', is', comes') =
    let both = one_line_end 128 128 line line' rest rest' (seed, is) (seed', is') (sym whole ∙ whole') in
    let value = one_line_value 128 128 line seed seed' is (subst (λ (t : List ℕ). IsSeedLine t seed') (sym both.0) is') in
    comes ∙ (ap (λ (t : List ℕ). of_verdict (key_verdict (key_of (parameters set) family t))) value ∙ sym comes')
same_comes family (Gen count) text o p (v, told, comes) (w, told', comes') = comes ∙ (ap of_verdict (same_told family count v w told told') ∙ sym comes')
same_comes family (Seal suite) text o p (key, info, source, messages, is, seals) (key', info', source', messages', is', seals') =
    let size = (parameters suite.set).ek_size in
    same_seals (parameters suite.set) family (kdf_algorithm suite.kdf) (aead_algorithm suite.aead) (aead_seal suite.aead) key info source messages o p seals
    (seals_of (parameters suite.set) family (kdf_algorithm suite.kdf) (aead_algorithm suite.aead) (aead_seal suite.aead) key key' info info' source source' messages messages' p
    (one_key size text key info source key' info' source' messages messages' is is') (one_info size text key info source key' info' source' messages messages' is is')
    (one_source size text key info source key' info' source' messages messages' is is') (one_message_list size text key info source key' info' source' messages messages' is is') seals')

-- `seal` ends with what its input comes to
mail_ends : (family : Family) (command : Command) (text : List ℕ) {A : Type 0} (a : Option A) (t : List ℕ) (o : Outcome) → o ≡ mail_outcome a t → ComesTo family command text o → EndsWith family command text o
mail_ends family command text None t o is comes = let there = subst (ComesTo family command text) is comes in subst (EndsWith family command text) (sym is) there
mail_ends family command text (Some a) t o is comes = let there = subst (ComesTo family command text) is comes in subst (EndsWith family command text) (sym is) there

pub seals_end : (family : Family) (suite : SuiteName) (text key info source : List ℕ) (messages : List (List ℕ)) → IsSealInput (parameters suite.set).ek_size text key info source messages → (o : Outcome)
    → Seals (parameters suite.set) family (kdf_algorithm suite.kdf) (aead_algorithm suite.aead) (aead_seal suite.aead) key info source messages o → EndsWith family (Seal suite) text o
seals_end family suite text key info source messages is o seals =
    let comes : ComesTo family (Seal suite) text o = (key, info, source, messages, is, seals) in
    elim (is_key (parameters suite.set) key) [
      | inl holds ↦ mail_ends family (Seal suite) text (matrix family (parameters suite.set).k (rho_part (parameters suite.set) key)) _ o (seals.sealed holds) comes
      | inr never ↦ (
          let refused = seals.refused never in
          let there : EndsWith family (Seal suite) text (Err InvalidKey) = subst (ComesTo family (Seal suite) text) refused comes in
          subst (EndsWith family (Seal suite) text) (sym refused) there)
    ]

-- ---- what is due

-- an input that a command comes to something over has no place where it fails, and isn't cut short
comes_no_fails : (family : Family) (command : Command) (text : List ℕ) (o : Outcome) (place : ℕ) → ComesTo family command text o → Fails command text place → ⊥
comes_no_fails family (Open suite budget) text o place (head, seed, info, rest, v, whole, is, opens, same) f = whole_no_fails (IsInput (Open suite budget)) (one_input_end (Open suite budget) tt) text head rest place whole (seed, info, is) f
comes_no_fails family (Key set) text o place (line, seed, rest, whole, is, comes) f = whole_no_fails (IsInput (Key set)) (one_input_end (Key set) tt) text line rest place whole (seed, is) f
comes_no_fails family (Gen count) text o place made f = whole_no_fails (IsInput (Gen count)) (one_input_end (Gen count) tt) text [] text place refl refl f
comes_no_fails family (Seal suite) text o place (key, info, source, messages, is, seals) f = stops_no_begin (IsInput (Seal suite)) text place f (Begins-whole (IsInput (Seal suite)) text (key, info, source, messages, is))

comes_no_end : (family : Family) (command : Command) (text : List ℕ) (o : Outcome) → ComesTo family command text o → Ends command text → ⊥
comes_no_end family (Open suite budget) text o (head, seed, info, rest, v, whole, is, opens, same) p = whole_no_part (IsInput (Open suite budget)) (one_input_end (Open suite budget) tt) text head rest whole (seed, info, is) p
comes_no_end family (Key set) text o (line, seed, rest, whole, is, comes) p = whole_no_part (IsInput (Key set)) (one_input_end (Key set) tt) text line rest whole (seed, is) p
comes_no_end family (Gen count) text o made p = whole_no_part (IsInput (Gen count)) (one_input_end (Gen count) tt) text [] text refl refl p
comes_no_end family (Seal suite) text o (key, info, source, messages, is, seals) p = p.1 (key, info, source, messages, is)

one_fail : (command : Command) (text : List ℕ) (place other : ℕ) → Fails command text place → Fails command text other → place ≡ other
one_fail (Open suite budget) text place other f h = one_place (IsInput (Open suite budget)) text place other f h
one_fail (Key set) text place other f h = one_place (IsInput (Key set)) text place other f h
one_fail (Gen count) text place other f h = one_place (IsInput (Gen count)) text place other f h
one_fail (Seal suite) text place other f h = one_stop (IsInput (Seal suite)) text place other f h

fails_no_end : (command : Command) (text : List ℕ) (place : ℕ) → Fails command text place → Ends command text → ⊥
fails_no_end (Open suite budget) text place f p = fails_no_part (IsInput (Open suite budget)) text place f p
fails_no_end (Key set) text place f p = fails_no_part (IsInput (Key set)) text place f p
fails_no_end (Gen count) text place f p = fails_no_part (IsInput (Gen count)) text place f p
fails_no_end (Seal suite) text place f p = stops_no_begin (IsInput (Seal suite)) text place f p.0

-- a command ends with what it comes to, or with a fault of its input
abbrev EndsAs : Family → Command → List ℕ → Outcome → Type 0
EndsAs family command text outcome = ComesTo family command text outcome
    ⊎ (((place : ℕ) × Fails command text place × (outcome ≡ Err (Place place))) ⊎ (Ends command text × (outcome ≡ Err Ended)))

ends_as : (family : Family) (command : Command) (text : List ℕ) (outcome : Outcome) → EndsWith family command text outcome → EndsAs family command text outcome
ends_as family command text (Ok items) ends = inl ends
ends_as family command text (Err (Place place)) ends = inr (inl (place, ends, refl))
ends_as family command text (Err Ended) ends = inr (inr (ends, refl))
ends_as family command text (Err InvalidKey) ends = inl ends
ends_as family command text (Err (Mail error)) ends = inl ends

same_ends : (family : Family) (command : Command) (text : List ℕ) (one other : Outcome) → EndsAs family command text one → EndsAs family command text other → one ≡ other
same_ends family command text one other (inl comes) (inl comes') = same_comes family command text one other comes comes'
same_ends family command text one other (inl comes) (inr (inl (place, fails, is'))) = absurd (comes_no_fails family command text one place comes fails)
same_ends family command text one other (inl comes) (inr (inr (end, is'))) = absurd (comes_no_end family command text one comes end)
same_ends family command text one other (inr (inl (place, fails, is))) (inl comes') = absurd (comes_no_fails family command text other place comes' fails)
same_ends family command text one other (inr (inl (place, fails, is))) (inr (inl (place', fails', is'))) = is ∙ (ap (λ (p : ℕ). Err (Place p)) (one_fail command text place place' fails fails') ∙ sym is')
same_ends family command text one other (inr (inl (place, fails, is))) (inr (inr (end, is'))) = absurd (fails_no_end command text place fails end)
same_ends family command text one other (inr (inr (end, is))) (inl comes') = absurd (comes_no_end family command text other comes' end)
same_ends family command text one other (inr (inr (end, is))) (inr (inl (place', fails', is'))) = absurd (fails_no_end command text place' fails' end)
same_ends family command text one other (inr (inr (end, is))) (inr (inr (end', is'))) = is ∙ sym is'

-- a command ends with one outcome
pub same_outcome : (family : Family) (command : Command) (text : List ℕ) (one other : Outcome) → EndsWith family command text one → EndsWith family command text other → one ≡ other
same_outcome family command text one other d e = same_ends family command text one other (ends_as family command text one d) (ends_as family command text other e)

pub same_due : (family : Family) (words : List (List ℕ)) (text : List ℕ) (one other : ℕ) (output another : List ℕ) → Due family words text one output → Due family words text other another → (one ≡ other) × (output ≡ another)
same_due family words text one other output another (inl d) (inl e) =
    let same = one_command words e.command d.command e.spelled d.spelled in
    let outcomes = same_outcome family d.command text d.outcome e.outcome d.ends_with (subst (λ (c : Command). EndsWith family c text e.outcome) same e.ends_with) in
    let outputs : outcome_output d.command d.outcome ≡ outcome_output e.command e.outcome = ap (λ (o : Outcome). outcome_output d.command o) outcomes ∙ ap (λ (c : Command). outcome_output c e.outcome) (sym same) in
    (d.status_is ∙ (ap outcome_status outcomes ∙ sym e.status_is), d.output_is ∙ (outputs ∙ sym e.output_is))
same_due family words text one other output another (inl d) (inr e) = absurd (e.no_command d.command d.spelled)
same_due family words text one other output another (inr d) (inl e) = absurd (d.no_command e.command e.spelled)
same_due family words text one other output another (inr d) (inr e) = (d.status_is ∙ sym e.status_is, d.output_is ∙ sym e.output_is)

-- what a command comes to is an answer
key_is_verdict : (o : Option KeyRecord) → IsVerdict (key_verdict o)
key_is_verdict None = ((λ e. cc e), (λ e. cc e))
key_is_verdict (Some key) = ((λ e. cc e), (λ e. cc e))

verdict_answer : (v : Verdict) → IsVerdict v → IsAnswer (outcome_status (of_verdict v))
verdict_answer (Ok items) is = inl refl
verdict_answer (Err NoMemory) is = absurd (is.0 refl)
verdict_answer (Err ReadFault) is = absurd (is.1 refl)
verdict_answer (Err error) is = inr (inr refl)

comes_answer : (family : Family) (command : Command) (text : List ℕ) (o : Outcome) → ComesTo family command text o → IsAnswer (outcome_status o)
comes_answer family (Open suite budget) text o (head, seed, info, rest, v, whole, is, opens, same) =
    subst (λ (x : Outcome). IsAnswer (outcome_status x)) (sym same)
    (verdict_answer v (by_key_verdict (parameters suite.set) family (kdf_algorithm suite.kdf) (aead_algorithm suite.aead) (aead_open suite.aead) seed info rest budget v opens))
comes_answer family (Key set) text o (line, seed, rest, whole, is, comes) =
    subst (λ (x : Outcome). IsAnswer (outcome_status x)) (sym comes) (verdict_answer (key_verdict (key_of (parameters set) family seed)) (key_is_verdict (key_of (parameters set) family seed)))
comes_answer family (Gen count) text o (v, told, comes) = subst (λ (x : Outcome). IsAnswer (outcome_status x)) (sym comes) (verdict_answer v (told_verdict family count v told))
comes_answer family (Seal suite) text o (key, info, source, messages, is, seals) =
    seals_answer (parameters suite.set) family (kdf_algorithm suite.kdf) (aead_algorithm suite.aead) (aead_seal suite.aead) key info source messages o seals

ends_answer : (family : Family) (command : Command) (text : List ℕ) (outcome : Outcome) → EndsAs family command text outcome → IsAnswer (outcome_status outcome)
ends_answer family command text outcome (inl comes) = comes_answer family command text outcome comes
ends_answer family command text outcome (inr (inl (place, fails, is))) = inr (inr (ap outcome_status is))
ends_answer family command text outcome (inr (inr (end, is))) = inr (inr (ap outcome_status is))

-- a status that is due says what is owed
pub due_answer : (family : Family) (words : List (List ℕ)) (text : List ℕ) (status : ℕ) (output : List ℕ) → Due family words text status output → IsAnswer status
due_answer family words text status output (inl d) = subst IsAnswer (sym d.status_is) (ends_answer family d.command text d.outcome (ends_as family d.command text d.outcome d.ends_with))
due_answer family words text status output (inr d) = inr (inl d.status_is)

-- ---- behind one head

-- what `open` writes doesn't depend on its budget
open_output : (suite : SuiteName) (budget limit : ℕ) (o : Outcome) → outcome_output (Open suite budget) o ≡ outcome_output (Open suite limit) o
open_output suite budget limit (Ok items) = refl
open_output suite budget limit (Err error) = refl

module _ (family : Family) (suite : SuiteName) (budget limit : ℕ) (head mail other : List ℕ) (is : IsHeadText head) (same : SameBodies mail budget other limit) where
  whole_comes : (o : Outcome) → ComesTo family (Open suite budget) (head ++ mail) o → (v : Verdict) × ComesTo family (Open suite limit) (head ++ other) (of_verdict v) × (o ≡ of_verdict v)
  whole_comes o (head', seed, info, rest, v, whole, is', opens, is_of) =
      let both = one_head_end head head' mail rest is (seed, info, is') whole in
      let there = subst (λ (t : List ℕ). OpensByKey (parameters suite.set) family (kdf_algorithm suite.kdf) (aead_algorithm suite.aead) (aead_open suite.aead) seed info t budget v) (sym both.1) opens in
      let now = same_bodies_by_key (parameters suite.set) family (kdf_algorithm suite.kdf) (aead_algorithm suite.aead) (aead_open suite.aead) seed info mail other budget limit v same there in
      (v, (head, seed, info, other, v, refl, subst (λ (t : List ℕ). IsHead t seed info) (sym both.0) is', now, refl), is_of)

  whole_ends : (outcome : Outcome) → EndsAs family (Open suite budget) (head ++ mail) outcome → EndsWith family (Open suite limit) (head ++ other) outcome
  whole_ends outcome (inl comes) =
      let whole = whole_comes outcome comes in
      subst (EndsWith family (Open suite limit) (head ++ other)) (sym whole.2) (ends_verdict family (Open suite limit) (head ++ other) whole.0 whole.1)
  whole_ends outcome (inr (inl (place, fails, is'))) = absurd (whole_no_fails (IsInput (Open suite budget)) (one_input_end (Open suite budget) tt) (head ++ mail) head mail place refl is fails)
  whole_ends outcome (inr (inr (part, is'))) = absurd (whole_no_part (IsInput (Open suite budget)) (one_input_end (Open suite budget) tt) (head ++ mail) head mail refl is part)

  pub same_bodies_due : (words others : List (List ℕ)) (status : ℕ) (output : List ℕ) → Spells words (Open suite budget) → Spells others (Open suite limit)
      → Due family words (head ++ mail) status output → Due family others (head ++ other) status output
  same_bodies_due words others status output spelled spells (inl d) =
      let command = one_command words d.command (Open suite budget) d.spelled spelled in
      let ends = subst (λ (c : Command). EndsWith family c (head ++ mail) d.outcome) command d.ends_with in
      inl (record {
        command = Open suite limit;
        spelled = spells;
        outcome = d.outcome;
        ends_with = whole_ends d.outcome (ends_as family (Open suite budget) (head ++ mail) d.outcome ends);
        status_is = d.status_is;
        output_is = d.output_is ∙ (ap (λ (c : Command). outcome_output c d.outcome) command ∙ open_output suite budget limit d.outcome);
      })
  same_bodies_due words others status output spelled spells (inr d) = absurd (d.no_command (Open suite budget) spelled)

-- ---- something is due

-- a command comes to something over a whole input, or over one at the front of a text
abbrev HasInput : Command → List ℕ → Type 0
HasInput (Seal suite) text = IsInput (Seal suite) text
HasInput command text = (input rest : List ℕ) × (text ≡ input ++ rest) × IsInput command input

some_comes : (family : Family) (command : Command) (text : List ℕ) → HasInput command text → ((o : Outcome) → ComesTo family command text o → EndsWith family command text o → ⊥) → ⊥
some_comes family (Open suite budget) text (input, rest, whole, (seed, info, is)) none =
    some_by_key (parameters suite.set) family (kdf_algorithm suite.kdf) (aead_algorithm suite.aead) (aead_open suite.aead) seed info rest budget (λ v opens.
    let comes : ComesTo family (Open suite budget) text (of_verdict v) = (input, seed, info, rest, v, whole, is, opens, refl) in
    none (of_verdict v) comes (ends_verdict family (Open suite budget) text v comes))
some_comes family (Key set) text (input, rest, whole, (seed, is)) none =
    let v = key_verdict (key_of (parameters set) family seed) in
    let comes : ComesTo family (Key set) text (of_verdict v) = (input, seed, rest, whole, is, refl) in
    none (of_verdict v) comes (ends_verdict family (Key set) text v comes)
some_comes family (Gen count) text has none = some_told family count (λ v told.
    let comes : ComesTo family (Gen count) text (of_verdict v) = (v, told, refl) in
    none (of_verdict v) comes (ends_verdict family (Gen count) text v comes))
some_comes family (Seal suite) text (key, info, source, messages, is) none =
    let seals = some_seals (parameters suite.set) family (kdf_algorithm suite.kdf) (aead_algorithm suite.aead) (aead_seal suite.aead) key info source messages in
    let comes : ComesTo family (Seal suite) text seals.0 = (key, info, source, messages, is, seals.1) in
    none seals.0 comes (seals_end family suite text key info source messages is seals.0 seals.1)

due_by : (family : Family) (words : List (List ℕ)) (text : List ℕ) (command : Command) (outcome : Outcome) → Spells words command → EndsWith family command text outcome → Due family words text (outcome_status outcome) (outcome_output command outcome)
due_by family words text command outcome spelled ends = inl (record { command = command; spelled = spelled; outcome = outcome; ends_with = ends; status_is = refl; output_is = refl })

-- a text has a command's input, or a place where it fails, or ends inside one
some_stands : (command : Command) (text : List ℕ) → HasInput command text ⊎ (((place : ℕ) × Fails command text place) ⊎ Ends command text)
some_stands (Open suite budget) text = some_head text
some_stands (Key set) text = some_line 128 128 (omega arith) refl text
some_stands (Gen count) text = inl ([], text, refl, refl)
some_stands (Seal suite) text = some_seal_input (parameters suite.set).ek_size text

some_of_command : (family : Family) (words : List (List ℕ)) (text : List ℕ) (command : Command) → Spells words command
    → HasInput command text ⊎ (((place : ℕ) × Fails command text place) ⊎ Ends command text) → ((status : ℕ) (output : List ℕ) → Due family words text status output → ⊥) → ⊥
some_of_command family words text command spelled (inl has) none =
    some_comes family command text has (λ o comes ends. none (outcome_status o) (outcome_output command o) (due_by family words text command o spelled ends))
some_of_command family words text command spelled (inr (inl (place, fails))) none = none _ _ (due_by family words text command (Err (Place place)) spelled fails)
some_of_command family words text command spelled (inr (inr end)) none = none _ _ (due_by family words text command (Err Ended) spelled end)

pub some_due : (family : Family) (words : List (List ℕ)) (text : List ℕ) → ((status : ℕ) (output : List ℕ) → Due family words text status output → ⊥) → ⊥
some_due family words text none = none 2 no_command_line (inr (record {
  no_command = λ command spelled. some_of_command family words text command spelled (some_stands command text) none;
  status_is = refl;
  output_is = refl;
}))
