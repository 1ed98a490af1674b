-- Inputs: which texts are whole ones, parts of one, or begin none.
use Rattle.std.proofs.Common.{◌≡◌, ◌≢◌, ℕ, zero, suc, ◌+◌, ◌*◌, ◌-◌, ◌%◌, ◌<◌, ◌≤◌, true, false, List, [], ◌∷◌, ◌++◌, length, take, drop, get_or, Option, Some, None, Result, Ok, Err, ◌⊎◌, inl, inr, refl, sym, ap, subst, ◌∙◌, arith, append_assoc}
use Rattle.std.proofs.lemmas.List.{append-nil, length-append, length_push, nil_from_length, take-append-drop, take_at, take-append-le, length-take-le, take-take, take_more, drop_more}
use Rattle.std.proofs.Math.Seq.{take-append-add}
use Rattle.std.proofs.lemmas.List.Elements.{recursion_from_All, All-from_recursion}
use Rattle.std.proofs.lemmas.Bool.{cases_eq, cases_lt, cases_Bool}
use Rattle.std.specs.List.{AllPass, AllByRecursion}
use Rattle.hex.specs.Hex.{decode_of, is_hex_digit}
use Rattle.hex.proofs.HexLemmas.{decode_of-ok, decode_of-digits, decode_of-same}
use Rattle.mail_commands.specs.Due.{IsInput}
use Rattle.mail_commands.specs.declared.command.Command.{Command}
use Rattle.mail_commands.specs.declared.command.Command.TheVariants.{Open, Key, Seal, Gen}
use Rattle.mail_commands.specs.Input.{IsLine, IsLineText, IsHead, IsHeadText, IsPart, BeginsNone, FailsAt}
use Rattle.std.specs.Prelude.{IfSome, IfOk, IfErr}
use Rattle.std.specs.Char.{is_ascii_hexdigit}
use Rattle.kem_mail.specs.Taken.{Lost}
use Rattle.mail_commands.specs.Taken.{StopsWithin, InputTakes}
use Rattle.mail_commands.specs.private.InputParts.{InputTaken, LineOrEnd, behind}
use Rattle.mail_commands.specs.declared.error.RunError.{RunError}
use Rattle.mail_commands.specs.declared.error.RunError.TheVariants.{Place, Ended, InvalidKey, Mail}
use Rattle.kem_mail.specs.declared.error.MailError.TheVariants.{NoMemory, ReadFault}

-- ---- digits

-- each is a digit
abbrev pub Digits : List ℕ → Type 0
Digits ds = AllByRecursion (λ c. is_hex_digit c ≡ true) ds

Digits-append : (xs ys : List ℕ) → Digits xs → Digits ys → Digits (xs ++ ys)
Digits-append [] ys h k = k
Digits-append (x ∷ xs) ys h k = (h.0, Digits-append xs ys h.1 k)

pub Digits-push : (ds : List ℕ) (b : ℕ) → Digits ds → is_hex_digit b ≡ true → Digits (ds ++ b ∷ [])
Digits-push ds b h d = Digits-append ds (b ∷ []) h (d, tt)

feed_is_no_digit : is_hex_digit 10 ≢ true
feed_is_no_digit e = cc

-- so many zeros
pub zeros : ℕ → List ℕ
zeros zero = []
zeros (suc n) = 48 ∷ zeros n

pub length-zeros : (n : ℕ) → length (zeros n) ≡ n
unfolding zeros
length-zeros zero = refl
length-zeros (suc n) = let e = length-zeros n in omega (arith, e)

pub Digits-zeros : (n : ℕ) → Digits (zeros n)
unfolding zeros
Digits-zeros zero = tt
Digits-zeros (suc n) = (refl, Digits-zeros n)

pub tails : (x y : ℕ) (xs ys : List ℕ) → x ∷ xs ≡ y ∷ ys → (x ≡ y) × (xs ≡ ys)
tails x y xs ys e = (cc, cc)

-- a text has one first line of digits
same_line : (line other more rest : List ℕ) → Digits line → Digits other → line ++ 10 ∷ more ≡ other ++ 10 ∷ rest → (line ≡ other) × (more ≡ rest)
same_line [] [] more rest h k e = (refl, (tails 10 10 more rest e).1)
same_line [] (y ∷ ys) more rest h k e =
    absurd (feed_is_no_digit (subst (λ (c : ℕ). is_hex_digit c ≡ true) (sym (tails 10 y more (ys ++ 10 ∷ rest) e).0) k.0))
same_line (x ∷ xs) [] more rest h k e =
    absurd (feed_is_no_digit (subst (λ (c : ℕ). is_hex_digit c ≡ true) (tails x 10 (xs ++ 10 ∷ more) rest e).0 h.0))
same_line (x ∷ xs) (y ∷ ys) more rest h k e =
    let step = tails x y (xs ++ 10 ∷ more) (ys ++ 10 ∷ rest) e in
    let others = same_line xs ys more rest h.1 k.1 step.1 in
    (cc (step.0, others.0), others.1)

-- digits before a byte are the first line, where that byte is its feed, or stand within it
before_feed : (ds line more rest : List ℕ) (b : ℕ) → Digits ds → Digits line → ds ++ b ∷ more ≡ line ++ 10 ∷ rest
    → ((b ≡ 10) × (ds ≡ line)) ⊎ ((is_hex_digit b ≡ true) × (length ds < length line))
before_feed [] [] more rest b h k e = inl ((tails b 10 more rest e).0, refl)
before_feed [] (y ∷ ys) more rest b h k e =
    inr (subst (λ (c : ℕ). is_hex_digit c ≡ true) (sym (tails b y more (ys ++ 10 ∷ rest) e).0) k.0, omega arith)
before_feed (x ∷ xs) [] more rest b h k e =
    absurd (feed_is_no_digit (subst (λ (c : ℕ). is_hex_digit c ≡ true) (tails x 10 (xs ++ b ∷ more) rest e).0 h.0))
before_feed (x ∷ xs) (y ∷ ys) more rest b h k e =
    let step = tails x y (xs ++ b ∷ more) (ys ++ 10 ∷ rest) e in
    elim (before_feed xs ys more rest b h.1 k.1 step.1) [
      | inl end ↦ inl (end.0, cc (step.0, end.1))
      | inr within ↦ let lt = within.1 in inr (within.0, omega (arith, lt))
    ]

-- ---- lines

module _ (least most : ℕ) where
  -- the digits of a line
  line_digits : (text bytes : List ℕ) (h : IsLine least most text bytes) → (length h.digits % 2 ≡ 0) × Digits h.digits × (length h.digits ≡ 2 * length bytes)
  line_digits text bytes h =
      let ok = decode_of-ok h.digits bytes h.decodes in
      (ok.0, recursion_from_All (λ c. is_hex_digit c ≡ true) h.digits ok.1, ok.2)

  -- an even number of digits, in range, and a line feed
  pub IsLine-digits : (ds bytes : List ℕ) → least ≤ length ds → length ds ≤ most → decode_of ds ≡ Ok bytes → IsLine least most (ds ++ 10 ∷ []) bytes
  IsLine-digits ds bytes enough short decodes = record { digits = ds; whole = refl; enough = enough; short = short; decodes = decodes }

  -- an even number of digits is a line, whatever it spells
  pub IsLineText-digits : (ds : List ℕ) → least ≤ length ds → length ds ≤ most → length ds % 2 ≡ 0 → Digits ds → IsLineText least most (ds ++ 10 ∷ [])
  IsLineText-digits ds enough short even h =
      let d = decode_of-digits ds even (All-from_recursion (λ c. is_hex_digit c ≡ true) ds h) in
      (d.0, IsLine-digits ds d.0 enough short d.1)

  -- digits, not too many, are a part of a line
  pub IsPart-digits : (ds : List ℕ) → least ≤ most → most % 2 ≡ 0 → length ds ≤ most → Digits ds → IsPart (IsLineText least most) ds
  IsPart-digits ds range even short h =
      let n = most - length ds in
      let len : length (ds ++ zeros n) ≡ most = omega (arith, length-append ds (zeros n), length-zeros n) in
      let line = IsLineText-digits (ds ++ zeros n) (omega (arith, len)) (omega (arith, len)) (rw len even) (Digits-append ds (zeros n) h (Digits-zeros n)) in (
        zeros n ++ 10 ∷ [],
        λ e. let no = ap length e in omega (arith, no, length_push (zeros n) 10),
        subst (IsLineText least most) (append_assoc ds (zeros n) (10 ∷ [])) line,
      )

  -- no line begins with digits and a byte that can't stand behind them
  pub BeginsNone-digits : (ds : List ℕ) (b : ℕ) → Digits ds → (is_hex_digit b ≢ true) ⊎ (most ≤ length ds)
      → (b ≡ 10 → least ≤ length ds → length ds % 2 ≡ 0 → ⊥) → BeginsNone (IsLineText least most) (ds ++ b ∷ [])
  BeginsNone-digits ds b h stop no_end more line =
      let is = line.1 in
      let facts = line_digits ((ds ++ b ∷ []) ++ more) line.0 is in
      let whole : ds ++ b ∷ more ≡ is.digits ++ 10 ∷ [] = sym (append_assoc ds (b ∷ []) more) ∙ is.whole in
      elim (before_feed ds is.digits more [] b h facts.1 whole) [
        | inl end ↦ no_end end.0 (rw end.1 is.enough) (rw end.1 facts.0)
        | inr within ↦ elim stop [
          | inl none ↦ none within.0
          | inr full ↦ let lt = within.1 in let short = is.short in absurd (omega (arith, lt, short, full))
        ]
      ]

  -- no line begins another
  pub one_line_end : (a b more rest : List ℕ) → IsLineText least most a → IsLineText least most b → a ++ more ≡ b ++ rest → (a ≡ b) × (more ≡ rest)
  one_line_end a b more rest line other e =
      let h = line.1 in
      let k = other.1 in
      let left : a ++ more ≡ h.digits ++ 10 ∷ more = ap (λ (t : List ℕ). t ++ more) h.whole ∙ append_assoc h.digits (10 ∷ []) more in
      let right : b ++ rest ≡ k.digits ++ 10 ∷ rest = ap (λ (t : List ℕ). t ++ rest) k.whole ∙ append_assoc k.digits (10 ∷ []) rest in
      let same = same_line h.digits k.digits more rest (line_digits a line.0 h).1 (line_digits b other.0 k).1 (sym left ∙ (e ∙ right)) in
      (h.whole ∙ (ap (λ (t : List ℕ). t ++ 10 ∷ []) same.0 ∙ sym k.whole), same.1)

  -- a line spells one list of bytes
  pub one_line_value : (a x y : List ℕ) → IsLine least most a x → IsLine least most a y → x ≡ y
  one_line_value a x y h k =
      let whole : h.digits ++ 10 ∷ [] ≡ k.digits ++ 10 ∷ [] = sym h.whole ∙ k.whole in
      let same = same_line h.digits k.digits [] [] (line_digits a x h).1 (line_digits a y k).1 whole in
      decode_of-same k.digits x y (subst (λ (ds : List ℕ). decode_of ds ≡ Ok x) same.0 h.decodes) k.decodes

-- ---- inputs of any kind

-- one of two splits of a text comes first
pub split_either : (a b c d : List ℕ) → a ++ b ≡ c ++ d → ((m : List ℕ) × (a ≡ c ++ m) × (d ≡ m ++ b)) ⊎ ((m : List ℕ) × (c ≡ a ++ m) × (b ≡ m ++ d))
split_either a b [] d e = inl (a, refl, sym e)
split_either [] b (y ∷ ys) d e = inr (y ∷ ys, refl, e)
split_either (x ∷ xs) b (y ∷ ys) d e =
    let step = tails x y (xs ++ b) (ys ++ d) e in
    elim (split_either xs b ys d step.1) [
      | inl before ↦ inl (before.0, cc (step.0, before.1), before.2)
      | inr behind ↦ inr (behind.0, cc (step.0, behind.1), behind.2)
    ]

-- nothing joined is nothing
pub nil_right : (a b : List ℕ) → a ++ b ≡ [] → b ≡ []
nil_right [] b e = e
nil_right (x ∷ xs) b e = cc e

not_nil_right : (a b : List ℕ) → b ≢ [] → a ++ b ≢ []
not_nil_right a b h e = h (nil_right a b e)

module _ (Is : List ℕ → Type 0) where
  -- no input begins another
  abbrev pub NoneBeginsAnother : Type 0
  NoneBeginsAnother = (a b more rest : List ℕ) → Is a → Is b → a ++ more ≡ b ++ rest → (a ≡ b) × (more ≡ rest)

  -- the front of a part is a part
  pub IsPart-front : (a b : List ℕ) → IsPart Is (a ++ b) → IsPart Is a
  IsPart-front a b p = (b ++ p.0, not_nil_right b p.0 p.1, subst Is (append_assoc a b p.0) p.2)

  -- what is in front of something in an input is a part
  pub IsPart-before : (a : List ℕ) (b : ℕ) (c : List ℕ) → Is (a ++ b ∷ c) → IsPart Is a
  IsPart-before a b c h = (b ∷ c, λ e. cc e, h)

  -- so many bytes of a part are a part
  pub IsPart-take : (n : ℕ) (text : List ℕ) → IsPart Is text → IsPart Is (take n text)
  IsPart-take n text p = IsPart-front (take n text) (drop n text) (subst (IsPart Is) (sym (take-append-drop n text)) p)

  -- a part, and one byte behind it
  pub StopsWithin-push : (a : List ℕ) (b : ℕ) → IsPart Is a → StopsWithin Is (a ++ b ∷ [])
  StopsWithin-push a b p n lt =
      let le : n ≤ length a = omega (arith, length_push a b) in
      subst (IsPart Is) (sym (take-append-le n a (b ∷ []) le)) (IsPart-take n a p)

  -- no proper prefix of a whole input is more than a part
  pub StopsWithin-whole : (a : List ℕ) → Is a → StopsWithin Is a
  StopsWithin-whole a h n lt =
      let parts : take n a ++ drop n a ≡ a = take-append-drop n a in (
        drop n a,
        λ e.
            let same : a ≡ take n a = sym parts ∙ (ap (λ (t : List ℕ). take n a ++ t) e ∙ append-nil (take n a)) in
            let len = length-take-le n a (omega arith) in
            let short = ap length same in
            absurd (omega (arith, len, short, lt)),
        subst Is (sym parts) h,
      )

  -- where a text fails, by its parts
  pub FailsAt-parts : (front : List ℕ) (b : ℕ) (rest : List ℕ) → IsPart Is front → BeginsNone Is (front ++ b ∷ []) → FailsAt Is (front ++ b ∷ rest) (length front)
  FailsAt-parts front b rest p none =
      let last : take (length front + 1) (front ++ b ∷ rest) ≡ front ++ b ∷ [] =
      ap (λ (t : List ℕ). take (length front + 1) t) (sym (append_assoc front (b ∷ []) rest)) ∙ take_at (front ++ b ∷ []) rest (length front + 1) (length_push front b) in
      record {
        within = omega (arith, length-append front (b ∷ rest));
        part = subst (IsPart Is) (sym (take_at front (b ∷ rest) (length front) refl)) p;
        fails = subst (BeginsNone Is) (sym last) none;
      }

-- ---- where a source tells its bytes

-- nothing
pub Lost_none : (now : Option (List ℕ)) → Lost now now (λ bytes. bytes ≡ [])
Lost_none None = tt
Lost_none (Some text) = ([], text, refl, refl, refl)

-- one loss and then another
pub Lost_then : (before mid now : Option (List ℕ)) (P Q R : List ℕ → Type 0) → Lost before mid P → Lost mid now Q
    → ((a b : List ℕ) → P a → Q b → R (a ++ b)) → Lost before now R
Lost_then None mid now P Q R p q f = tt
Lost_then (Some text) mid now P Q R p q f =
    let r = subst (λ (o : Option (List ℕ)). Lost o now Q) p.3 q in
    (p.0 ++ r.0, r.1, p.2 ∙ (ap (λ (t : List ℕ). p.0 ++ t) r.2 ∙ sym (append_assoc p.0 r.0 r.1)), r.3, f p.0 r.0 p.4 r.4)

-- what is lost, in other words
pub Lost_weaker : (before now : Option (List ℕ)) (P Q : List ℕ → Type 0) → Lost before now P → ((a : List ℕ) → P a → Q a) → Lost before now Q
Lost_weaker None now P Q p f = tt
Lost_weaker (Some text) now P Q p f = (p.0, p.1, p.2, p.3, f p.0 p.4)

-- it has ended
pub ended_then : (before mid now : Option (List ℕ)) (P : List ℕ → Type 0) → Lost before mid P → IfSome mid (λ text. now ≡ Some []) → IfSome before (λ text. now ≡ Some [])
ended_then None mid now P p e = tt
ended_then (Some text) mid now P p e = subst (λ (o : Option (List ℕ)). IfSome o (λ t. now ≡ Some [])) p.3 e

-- ---- the bytes of a line, one at a time

-- std's test of a digit
pub digit_from_ascii : (c : ℕ) → is_ascii_hexdigit c ≡ true → is_hex_digit c ≡ true
digit_from_ascii c h = grind (arith)

pub no_digit_from_ascii : (c : ℕ) → is_ascii_hexdigit c ≡ false → is_hex_digit c ≢ true
no_digit_from_ascii c h = grind (arith)

module _ (before mid now : Option (List ℕ)) (least most : ℕ) (ds : List ℕ)
    (range : least ≤ most) (even : most % 2 ≡ 0) (short : length ds ≤ most) (all : AllPass is_hex_digit ds) where
  -- what stands before the byte
  part : IsPart (IsLineText least most) ds
  part = IsPart-digits least most ds range even short (recursion_from_All (λ c. is_hex_digit c ≡ true) ds all)

  -- the source ended or failed
  pub line_ended : (X : Type 0) (Holds : List ℕ → X → Type 0) (e : RunError) → Lost before mid (λ bytes. bytes ≡ ds) → Lost mid now (λ bytes. bytes ≡ []) → (e ≡ Ended) ⊎ (e ≡ Mail ReadFault)
      → Lost before now (InputTaken (IsLineText least most) Holds (Err e))
  line_ended X Holds e l r refused =
      Lost_then before mid now (λ bytes. bytes ≡ ds) (λ bytes. bytes ≡ []) (InputTaken (IsLineText least most) Holds (Err e)) l r (λ a b p q.
      let whole : ds ≡ a ++ b = sym (cc (p, q, append-nil a)) in
      let here = subst (IsPart (IsLineText least most)) whole part in
      elim refused [
        | inl ended ↦ rw ended here
        | inr failed ↦ rw failed (inr (refl, here))
      ])

  -- memory ran out behind this byte
  pub line_memory : (b : ℕ) → Lost before mid (λ bytes. bytes ≡ ds) → Lost mid now (λ bytes. bytes ≡ b ∷ [])
      → Lost before now (InputTakes (IsLineText least most) (Mail NoMemory))
  line_memory b l r =
      Lost_then before mid now (λ bytes. bytes ≡ ds) (λ bytes. bytes ≡ b ∷ []) (InputTakes (IsLineText least most) (Mail NoMemory)) l r (λ a c p q.
      rw (p, q) (inl (refl, StopsWithin-push (IsLineText least most) ds b part)))

  -- this byte can't stand there
  pub line_fails : (b : ℕ) → Lost before mid (λ bytes. bytes ≡ ds) → Lost mid now (λ bytes. bytes ≡ b ∷ [])
      → (is_hex_digit b ≢ true) ⊎ (most ≤ length ds) → (b ≡ 10 → least ≤ length ds → length ds % 2 ≡ 0 → ⊥)
      → Lost before now (λ bytes. (length bytes ≡ length ds + 1) × FailsAt (IsLineText least most) bytes (length ds))
  line_fails b l r stop no_end =
      Lost_then before mid now (λ bytes. bytes ≡ ds) (λ bytes. bytes ≡ b ∷ []) (λ bytes. (length bytes ≡ length ds + 1) × FailsAt (IsLineText least most) bytes (length ds)) l r (λ a c p q.
      let none = BeginsNone-digits least most ds b (recursion_from_All (λ c. is_hex_digit c ≡ true) ds all) stop no_end in
      rw (p, q) (length_push ds b, FailsAt-parts (IsLineText least most) ds b [] part none))

-- no byte came behind these digits: none of them is no line, and else the line is refused
pub line_stopped : (X : Type 0) (items : X → List ℕ) (r : Result (Option X) RunError) (before mid now : Option (List ℕ)) (least most : ℕ) (ds : List ℕ) (count : ℕ) (e : RunError) → least ≤ most → most % 2 ≡ 0 → length ds ≤ most → AllPass is_hex_digit ds
    → count ≡ length ds → Lost before mid (λ bytes. bytes ≡ ds) → Lost mid now (λ bytes. bytes ≡ []) → (e ≡ Ended) ⊎ (e ≡ Mail ReadFault)
    → IfOk r (λ line. (line ≡ None) × (count ≡ 0) × (e ≡ Ended)) → IfErr r (λ error. (error ≡ e) × (e ≡ Ended → count ≡ 0 → ⊥)) → Lost before now (LineOrEnd least most items r)
line_stopped X items (Ok line) before mid now least most ds count e range even short all long l r refused none other =
    rw none.0 (Lost_then before mid now (λ t. t ≡ ds) (λ t. t ≡ []) (λ t. t ≡ []) l r (λ a b p q.
    let empty = nil_from_length ds (omega (arith, long, none.1)) in cc (p, q, empty)))
line_stopped X items (Err error) before mid now least most ds count e range even short all long l r refused none other =
    rw other.0 (Lost_then before mid now (λ t. t ≡ ds) (λ t. t ≡ []) (λ t. InputTakes (IsLineText least most) e t × (e ≡ Ended → t ≢ [])) l r (λ a b p q.
    let whole : ds ≡ a ++ b = sym (cc (p, q, append-nil a)) in
    let here : IsPart (IsLineText least most) (a ++ b) = subst (IsPart (IsLineText least most)) whole (IsPart-digits least most ds range even short (recursion_from_All (λ c. is_hex_digit c ≡ true) ds all)) in
    let some : e ≡ Ended → a ++ b ≢ [] = λ is empty. (let len = ap length (whole ∙ empty) in other.1 is (omega (arith, long, len))) in
    (part_or_fault e (a ++ b) refused here, some)))
  where
    part_or_fault : (e : RunError) (t : List ℕ) → (e ≡ Ended) ⊎ (e ≡ Mail ReadFault) → IsPart (IsLineText least most) t → InputTakes (IsLineText least most) e t
    part_or_fault e t (inl ended) part = rw ended part
    part_or_fault e t (inr failed) part = rw failed (inr (refl, part))

-- a line that is refused for another cause
pub line_refused : (X : Type 0) (items : X → List ℕ) (before now : Option (List ℕ)) (least most : ℕ) (e : RunError) → Lost before now (InputTakes (IsLineText least most) e) → e ≢ Ended → Lost before now (LineOrEnd {X = X} least most items (Err e))
line_refused X items before now least most e l other = Lost_weaker before now (InputTakes (IsLineText least most) e) (λ t. InputTakes (IsLineText least most) e t × (e ≡ Ended → t ≢ [])) l (λ a t. (t, λ is. absurd (other is)))

-- the source had ended in front of a line
pub line_missing : (X : Type 0) (Holds : List ℕ → X → Type 0) (before now : Option (List ℕ)) (least most : ℕ) → least ≤ most → most % 2 ≡ 0 → Lost before now (λ bytes. bytes ≡ []) → Lost before now (InputTaken (IsLineText least most) Holds (Err Ended))
line_missing X Holds before now least most range even l =
    Lost_weaker before now (λ t. t ≡ []) (IsPart (IsLineText least most)) l (λ a e. rw e (IsPart-digits least most [] range even (omega arith) tt))

-- the line feed, and what the digits before it decode to
pub line_decoded : (X : Type 0) (items : X → List ℕ) (r : Result X RunError) (before mid now : Option (List ℕ)) (least most : ℕ) (ds : List ℕ) → least ≤ most → most % 2 ≡ 0 → length ds ≤ most → AllPass is_hex_digit ds
    → Lost before mid (λ bytes. bytes ≡ ds) → Lost mid now (λ bytes. bytes ≡ 10 ∷ []) → least ≤ length ds → IfOk r (λ x. decode_of ds ≡ Ok (items x)) → IfErr r (λ e. e ≡ Mail NoMemory)
    → Lost before now (InputTaken (IsLineText least most) (λ t x. IsLine least most t (items x)) r)
line_decoded X items (Ok x) before mid now least most ds range even short all l r enough value memory =
    Lost_then before mid now (λ t. t ≡ ds) (λ t. t ≡ 10 ∷ []) (λ t. IsLine least most t (items x)) l r (λ a c p q.
    rw (p, q) (IsLine-digits least most ds (items x) enough short value))
line_decoded X items (Err e) before mid now least most ds range even short all l r enough value memory =
    rw memory (line_memory before mid now least most ds range even short all 10 l r)

-- how many bytes digits decode to
pub line_sized : (X : Type 0) (items : X → List ℕ) (r : Result X RunError) (least most : ℕ) (ds : List ℕ) → least ≤ length ds → length ds ≤ most → IfOk r (λ x. decode_of ds ≡ Ok (items x))
    → IfOk r (λ x. (least ≤ 2 * length (items x)) × (2 * length (items x) ≤ most))
line_sized X items (Ok x) least most ds enough short value = let len = (decode_of-ok ds (items x) value).2 in (omega (arith, len, enough), omega (arith, len, short))
line_sized X items (Err e) least most ds enough short value = tt

-- one digit more
pub digits_pushed : (ds : List ℕ) (b : ℕ) → AllPass is_hex_digit ds → is_hex_digit b ≡ true → AllPass is_hex_digit (ds ++ b ∷ [])
digits_pushed ds b h d =
    All-from_recursion (λ c. is_hex_digit c ≡ true) (ds ++ b ∷ []) (Digits-push ds b (recursion_from_All (λ c. is_hex_digit c ≡ true) ds h) d)

-- ---- heads

-- the line of a seed, and the line of an info
abbrev pub IsFirst : List ℕ → Type 0
IsFirst text = IsLineText 128 128 text

abbrev pub IsSecond : List ℕ → Type 0
IsSecond text = IsLineText 0 8192 text

pub IsHeadText-lines : (first second : List ℕ) → IsFirst first → IsSecond second → IsHeadText (first ++ second)
IsHeadText-lines first second h k =
    (h.0, k.0, record { first = first; second = second; whole = refl; seed_line = h.1; info_line = k.1 })

-- the line of a seed has 129 bytes
pub length-first : (first seed : List ℕ) → IsLine 128 128 first seed → length first ≡ 129
length-first first seed h = let e = ap length h.whole in let enough = h.enough in let short = h.short in omega (arith, e, enough, short, length_push h.digits 10)

-- no head begins another
pub one_head_end : (a b more rest : List ℕ) → IsHeadText a → IsHeadText b → a ++ more ≡ b ++ rest → (a ≡ b) × (more ≡ rest)
one_head_end a b more rest head other e =
    let h = head.2 in
    let k = other.2 in
    let left : a ++ more ≡ h.first ++ (h.second ++ more) = ap (λ (t : List ℕ). t ++ more) h.whole ∙ append_assoc h.first h.second more in
    let right : b ++ rest ≡ k.first ++ (k.second ++ rest) = ap (λ (t : List ℕ). t ++ rest) k.whole ∙ append_assoc k.first k.second rest in
    let firsts = one_line_end 128 128 h.first k.first (h.second ++ more) (k.second ++ rest) (head.0, h.seed_line) (other.0, k.seed_line) (sym left ∙ (e ∙ right)) in
    let seconds = one_line_end 0 8192 h.second k.second more rest (head.1, h.info_line) (other.1, k.info_line) firsts.1 in
    (h.whole ∙ (cc (firsts.0, seconds.0) ∙ sym k.whole), seconds.1)

-- a head holds one seed and one info
pub one_head_value : (a seed info seed' info' : List ℕ) → IsHead a seed info → IsHead a seed' info' → (seed ≡ seed') × (info ≡ info')
one_head_value a seed info seed' info' h k =
    let firsts = one_line_end 128 128 h.first k.first h.second k.second (seed, h.seed_line) (seed', k.seed_line) (sym h.whole ∙ k.whole) in (
      one_line_value 128 128 k.first seed seed' (subst (λ (t : List ℕ). IsLine 128 128 t seed) firsts.0 h.seed_line) k.seed_line,
      one_line_value 0 8192 k.second info info' (subst (λ (t : List ℕ). IsLine 0 8192 t info) firsts.1 h.info_line) k.info_line,
    )

-- the shortest line of an info
no_info : IsSecond (10 ∷ [])
no_info = IsLineText-digits 0 8192 [] (omega arith) (omega arith) refl tt

-- a part of the first line is a part of a head
pub IsPart-first : (text : List ℕ) → IsPart IsFirst text → IsPart IsHeadText text
IsPart-first text p =
    (p.0 ++ 10 ∷ [], not_nil_right p.0 (10 ∷ []) (λ e. cc e), subst IsHeadText (append_assoc text p.0 (10 ∷ [])) (IsHeadText-lines (text ++ p.0) (10 ∷ []) p.2 no_info))

-- a first line that goes on behind a part of one holds the byte that follows
first_goes_on : (m first second front : List ℕ) (b : ℕ) (more : List ℕ) → IsFirst first → ((n : List ℕ) → front ≡ first ++ n → ⊥) → BeginsNone IsFirst (front ++ b ∷ []) → first ≡ front ++ m → b ∷ more ≡ m ++ second → ⊥
first_goes_on [] first second front b more line no_longer none e rest = no_longer [] (sym (append-nil front) ∙ (sym e ∙ sym (append-nil first)))
first_goes_on (y ∷ ys) first second front b more line no_longer none e rest =
    let same = tails b y more (ys ++ second) rest in
    let whole : first ≡ (front ++ b ∷ []) ++ ys = e ∙ (ap (λ (c : ℕ). front ++ c ∷ ys) (sym same.0) ∙ sym (append_assoc front (b ∷ []) ys)) in
    none ys (subst IsFirst whole line)

-- what begins no first line, behind a part of one, begins no head
pub BeginsNone-first : (front : List ℕ) (b : ℕ) → IsPart IsFirst front → BeginsNone IsFirst (front ++ b ∷ []) → BeginsNone IsHeadText (front ++ b ∷ [])
BeginsNone-first front b p none more head =
    let h = head.2 in
    let first : IsFirst h.first = (head.0, h.seed_line) in
    let whole : front ++ b ∷ more ≡ h.first ++ h.second = sym (append_assoc front (b ∷ []) more) ∙ h.whole in
    let no_longer : (m : List ℕ) → front ≡ h.first ++ m → ⊥ = λ m e.
    let both : h.first ++ (m ++ p.0) ≡ (front ++ p.0) ++ [] = sym (append_assoc h.first m p.0) ∙ (ap (λ (t : List ℕ). t ++ p.0) (sym e) ∙ sym (append-nil (front ++ p.0))) in
    p.1 (nil_right m p.0 (one_line_end 128 128 h.first (front ++ p.0) (m ++ p.0) [] first p.2 both).1) in
    elim (split_either front (b ∷ more) h.first h.second whole) [
      | inl behind ↦ no_longer behind.0 behind.1
      | inr before ↦ first_goes_on before.0 h.first h.second front b more first no_longer none before.1 before.2
    ]

-- behind the first line a part of the second is a part of a head
pub IsPart-second : (first text : List ℕ) → IsFirst first → IsPart IsSecond text → IsPart IsHeadText (first ++ text)
IsPart-second first text h p = (p.0, p.1, subst IsHeadText (sym (append_assoc first text p.0)) (IsHeadText-lines first (text ++ p.0) h p.2))

-- behind the first line what begins no second begins no head
pub BeginsNone-second : (first text : List ℕ) → IsFirst first → BeginsNone IsSecond text → BeginsNone IsHeadText (first ++ text)
BeginsNone-second first text line none more head =
    let h = head.2 in
    let whole : first ++ (text ++ more) ≡ h.first ++ h.second = sym (append_assoc first text more) ∙ h.whole in
    let same = one_line_end 128 128 first h.first (text ++ more) h.second line (head.0, h.seed_line) whole in
    none more (head.1, subst (λ (t : List ℕ). IsLine 0 8192 t head.1) (sym same.1) h.info_line)

module _ (Is : List ℕ → Type 0) where
  -- what stands before, at and behind the place
  pub parts_of_fails : (text : List ℕ) (place : ℕ) → FailsAt Is text place
      → ((front : List ℕ) × (b : ℕ) × (rest : List ℕ) × (text ≡ front ++ b ∷ rest) × (length front ≡ place) × IsPart Is front × BeginsNone Is (front ++ b ∷ []))
  parts_of_fails text place f =
      let lt = f.within in
      let rest : drop place text ≡ get_or text place 0 ∷ drop (place + 1) text = drop_more text place 0 lt in (
        take place text,
        get_or text place 0,
        drop (place + 1) text,
        sym (take-append-drop place text) ∙ ap (λ (t : List ℕ). take place text ++ t) rest,
        length-take-le place text (omega (arith, lt)),
        f.part,
        subst (BeginsNone Is) (take_more text place 0 lt) f.fails,
      )

-- a text fails where its first line does
pub FailsAt-first : (text : List ℕ) (place : ℕ) → FailsAt IsFirst text place → FailsAt IsHeadText text place
FailsAt-first text place f =
    let parts = parts_of_fails IsFirst text place f in
    let fails = FailsAt-parts IsHeadText parts.0 parts.1 parts.2 (IsPart-first parts.0 parts.5) (BeginsNone-first parts.0 parts.1 parts.5 parts.6) in
    let there : FailsAt IsHeadText (parts.0 ++ parts.1 ∷ parts.2) place = subst (FailsAt IsHeadText (parts.0 ++ parts.1 ∷ parts.2)) parts.4 fails in
    subst (λ (t : List ℕ). FailsAt IsHeadText t place) (sym parts.3) there

-- behind the first line a text fails where its second does
pub FailsAt-second : (first text : List ℕ) (place : ℕ) → IsFirst first → FailsAt IsSecond text place → FailsAt IsHeadText (first ++ text) (129 + place)
FailsAt-second first text place line f =
    let parts = parts_of_fails IsSecond text place f in
    let front = first ++ parts.0 in
    let none : BeginsNone IsHeadText (front ++ parts.1 ∷ []) = subst (BeginsNone IsHeadText) (sym (append_assoc first parts.0 (parts.1 ∷ []))) (BeginsNone-second first (parts.0 ++ parts.1 ∷ []) line parts.6) in
    let fails = FailsAt-parts IsHeadText front parts.1 parts.2 (IsPart-second first parts.0 line parts.5) none in
    let len : length front ≡ 129 + place = omega (arith, length-append first parts.0, length-first first line.0 line.1, parts.4) in
    let whole : front ++ parts.1 ∷ parts.2 ≡ first ++ text = append_assoc first parts.0 (parts.1 ∷ parts.2) ∙ ap (λ (t : List ℕ). first ++ t) (sym parts.3) in
    let there : FailsAt IsHeadText (front ++ parts.1 ∷ parts.2) (129 + place) = subst (FailsAt IsHeadText (front ++ parts.1 ∷ parts.2)) len fails in
    subst (λ (t : List ℕ). FailsAt IsHeadText t (129 + place)) whole there

-- behind the first line
pub StopsWithin-second : (first text : List ℕ) → IsFirst first → StopsWithin IsSecond text → StopsWithin IsHeadText (first ++ text)
StopsWithin-second first text line stops n lt =
    let len = length-append first text in
    elim (cases_lt n (length first)) [
      | inl within ↦
          subst (IsPart IsHeadText) (sym (take-append-le n first text (omega (arith, within)))) (IsPart-first (take n first) (StopsWithin-whole IsFirst first line n within))
      | inr behind ↦
          let k = n - length first in
          let sum : n ≡ length first + k = omega (arith, behind) in
          let split : take n (first ++ text) ≡ first ++ take k text = ap (λ (i : ℕ). take i (first ++ text)) sum ∙ take-append-add first text k in
          subst (IsPart IsHeadText) (sym split) (IsPart-second first (take k text) line (stops k (omega (arith, lt, len, sum))))
    ]

-- ---- what was taken of a head

module _ (X Y : Type 0) (Holds : List ℕ → X → Type 0) (Heads : List ℕ → Y → Type 0) where
  taken_first : (e : RunError) (bytes : List ℕ) → InputTaken IsFirst Holds (Err e) bytes → InputTaken IsHeadText Heads (Err e) bytes
  taken_first (Place place) bytes t = (t.0, FailsAt-first bytes place t.1)
  taken_first Ended bytes t = IsPart-first bytes t
  taken_first InvalidKey bytes t = t
  taken_first (Mail error) bytes (inl (e, stops)) = inl (e, λ n lt. IsPart-first (take n bytes) (stops n lt))
  taken_first (Mail error) bytes (inr (e, part)) = inr (e, IsPart-first bytes part)

  taken_second : (e : RunError) (first bytes : List ℕ) → IsFirst first → InputTaken IsSecond Holds (Err e) bytes → InputTaken IsHeadText Heads (Err (behind 129 e)) (first ++ bytes)
  taken_second (Place place) first bytes line t =
      (omega (arith, t.0, length-append first bytes, length-first first line.0 line.1), FailsAt-second first bytes place line t.1)
  taken_second Ended first bytes line t = IsPart-second first bytes line t
  taken_second InvalidKey first bytes line t = t
  taken_second (Mail error) first bytes line (inl (e, stops)) = inl (e, StopsWithin-second first bytes line stops)
  taken_second (Mail error) first bytes line (inr (e, part)) = inr (e, IsPart-second first bytes line part)

  -- the first line is refused
  pub lost_first : (before now : Option (List ℕ)) (e : RunError) → Lost before now (InputTaken IsFirst Holds (Err e)) → Lost before now (InputTaken IsHeadText Heads (Err e))
  lost_first before now e l = Lost_weaker before now (InputTaken IsFirst Holds (Err e)) (InputTaken IsHeadText Heads (Err e)) l (taken_first e)

  -- the second line is refused
  pub lost_second : (before mid now : Option (List ℕ)) (seed : List ℕ) (e : RunError) → Lost before mid (λ t. IsLine 128 128 t seed) → Lost mid now (InputTaken IsSecond Holds (Err e))
      → Lost before now (InputTaken IsHeadText Heads (Err (behind 129 e)))
  lost_second before mid now seed e l r =
      Lost_then before mid now (λ t. IsLine 128 128 t seed) (InputTaken IsSecond Holds (Err e)) (InputTaken IsHeadText Heads (Err (behind 129 e))) l r (λ a b p q.
      taken_second e a b (seed, p) q)

-- both lines are there
pub lost_head : (before mid now : Option (List ℕ)) (seed info : List ℕ) → Lost before mid (λ t. IsLine 128 128 t seed) → Lost mid now (λ t. IsLine 0 8192 t info) → Lost before now (λ t. IsHead t seed info)
lost_head before mid now seed info l r =
    Lost_then before mid now (λ t. IsLine 128 128 t seed) (λ t. IsLine 0 8192 t info) (λ t. IsHead t seed info) l r (λ a b p q.
    record { first = a; second = b; whole = refl; seed_line = p; info_line = q })

-- ---- a text has one of these, and no two: a whole input at its front, a place where it fails, or it is
-- a part

module _ (Is : List ℕ → Type 0) where
  -- what stands at the front of a text
  abbrev pub Stands : List ℕ → Type 0
  Stands text = ((input rest : List ℕ) × (text ≡ input ++ rest) × Is input) ⊎ (((place : ℕ) × FailsAt Is text place) ⊎ IsPart Is text)

  -- a part of an input fails nowhere
  pub fails_no_part : (text : List ℕ) (place : ℕ) → FailsAt Is text place → IsPart Is text → ⊥
  fails_no_part text place f p =
      let whole : take (place + 1) text ++ (drop (place + 1) text ++ p.0) ≡ text ++ p.0 =
      sym (append_assoc (take (place + 1) text) (drop (place + 1) text) p.0) ∙ ap (λ (t : List ℕ). t ++ p.0) (take-append-drop (place + 1) text) in
      f.fails (drop (place + 1) text ++ p.0) (subst Is (sym whole) p.2)

  -- a text fails at no place in front of another
  fails_not_before : (text : List ℕ) (place other : ℕ) → FailsAt Is text place → FailsAt Is text other → place < other → ⊥
  fails_not_before text place other f h lt =
      let le : place + 1 ≤ other = omega (arith, lt) in
      let short : take (place + 1) (take other text) ≡ take (place + 1) text = take-take (place + 1) other text le in
      let front = IsPart-take Is (place + 1) (take other text) h.part in
      let here : IsPart Is (take (place + 1) text) = subst (IsPart Is) short front in
      f.fails here.0 here.2

  -- a text fails at one place
  pub one_place : (text : List ℕ) (place other : ℕ) → FailsAt Is text place → FailsAt Is text other → place ≡ other
  one_place text place other f h =
      elim (cases_lt place other) [
        | inl before ↦ absurd (fails_not_before text place other f h before)
        | inr behind ↦ elim (cases_lt other place) [
          | inl lt ↦ absurd (fails_not_before text other place h f lt)
          | inr le ↦ omega (arith, behind, le)
        ]
      ]

  module _ (ended : NoneBeginsAnother Is) where
    -- a text behind a whole input is no part
    pub whole_no_part : (text input rest : List ℕ) → text ≡ input ++ rest → Is input → IsPart Is text → ⊥
    whole_no_part text input rest e h p =
        let both : input ++ (rest ++ p.0) ≡ (text ++ p.0) ++ [] = sym (append_assoc input rest p.0) ∙ (ap (λ (t : List ℕ). t ++ p.0) (sym e) ∙ sym (append-nil (text ++ p.0))) in
        p.1 (nil_right rest p.0 (ended input (text ++ p.0) (rest ++ p.0) [] h p.2 both).1)

    -- a text that begins with a whole input fails nowhere
    pub whole_no_fails : (text input rest : List ℕ) (place : ℕ) → text ≡ input ++ rest → Is input → FailsAt Is text place → ⊥
    whole_no_fails text input rest place e h f =
        elim (cases_lt place (length input)) [
          | inl within ↦
              let front : take (place + 1) text ≡ take (place + 1) input = ap (λ (t : List ℕ). take (place + 1) t) e ∙ take-append-le (place + 1) input rest (omega (arith, within)) in
              f.fails (drop (place + 1) input) (subst Is (sym (ap (λ (t : List ℕ). t ++ drop (place + 1) input) front ∙ take-append-drop (place + 1) input)) h)
          | inr behind ↦
              let k = place - length input in
              let sum : place ≡ length input + k = omega (arith, behind) in
              let front : take place text ≡ input ++ take k rest =
              ap (λ (t : List ℕ). take place t) e ∙ (ap (λ (i : ℕ). take i (input ++ rest)) sum ∙ take-append-add input rest k) in
              whole_no_part (take place text) input (take k rest) front h f.part
        ]

    -- a text has one input at its front
    pub one_front : (text a more b rest : List ℕ) → text ≡ a ++ more → text ≡ b ++ rest → Is a → Is b → (a ≡ b) × (more ≡ rest)
    one_front text a more b rest e e' h k = ended a b more rest h k (sym e ∙ e')

module _ (least most : ℕ) (range : least ≤ most) (even : most % 2 ≡ 0) where
  -- what a byte behind so many digits is: the line feed, a byte that can't stand there, or a digit more
  abbrev IsEnd : ℕ → ℕ → Type 0
  IsEnd b n = (b ≡ 10) × (least ≤ n) × (n % 2 ≡ 0)

  end_or_not : (b n : ℕ) → IsEnd b n ⊎ (b ≡ 10 → least ≤ n → n % 2 ≡ 0 → ⊥)
  end_or_not b n =
      elim (cases_eq b 10) [
        | inr other ↦ inr (λ ten enough two. other ten)
        | inl ten ↦ elim (cases_lt n least) [
          | inl short ↦ inr (λ ten enough two. omega (arith, short, enough))
          | inr enough ↦ elim (cases_eq (n % 2) 0) [
            | inl two ↦ inl (ten, enough, two)
            | inr odd ↦ inr (λ ten enough two. odd two)
          ]
        ]
      ]

  stop_or_not : (b n : ℕ) → ((is_hex_digit b ≢ true) ⊎ (most ≤ n)) ⊎ ((is_hex_digit b ≡ true) × (n < most))
  stop_or_not b n =
      elim (cases_lt n most) [
        | inr full ↦ inl (inr full)
        | inl more ↦ elim (cases_Bool (is_hex_digit b)) [
          | inl digit ↦ inr (digit, more)
          | inr none ↦ inl (inl (λ e. cc (e, none)))
        ]
      ]

  -- what stands behind digits
  scan_line : (rest ds : List ℕ) → Digits ds → length ds ≤ most → Stands (IsLineText least most) (ds ++ rest)
  scan_line [] ds h short = inr (inr (subst (IsPart (IsLineText least most)) (sym (append-nil ds)) (IsPart-digits least most ds range even short h)))
  scan_line (b ∷ rest) ds h short =
      elim (end_or_not b (length ds)) [
        | inl end ↦ inl (
          ds ++ 10 ∷ [],
          rest,
          ap (λ (c : ℕ). ds ++ c ∷ rest) end.0 ∙ sym (append_assoc ds (10 ∷ []) rest),
          IsLineText-digits least most ds end.1 short end.2 h,
        )
        | inr no_end ↦ elim (stop_or_not b (length ds)) [
          | inl stop ↦ inr (inl (
            length ds,
            FailsAt-parts (IsLineText least most) ds b rest (IsPart-digits least most ds range even short h) (BeginsNone-digits least most ds b h stop no_end),
          ))
          | inr more ↦
              let lt = more.1 in
              let len = length_push ds b in
              subst (Stands (IsLineText least most)) (append_assoc ds (b ∷ []) rest) (scan_line rest (ds ++ b ∷ []) (Digits-push ds b h more.0) (omega (arith, lt, len)))
        ]
      ]

  -- what stands at the front of a text, of lines
  pub some_line : (text : List ℕ) → Stands (IsLineText least most) text
  some_line text = scan_line text [] tt (omega arith)

-- what stands behind the first line
some_second : (text first rest : List ℕ) → text ≡ first ++ rest → IsFirst first → Stands IsSecond rest → Stands IsHeadText text
some_second text first rest e line (inl whole) =
    inl (
      first ++ whole.0,
      whole.1,
      e ∙ (ap (λ (t : List ℕ). first ++ t) whole.2 ∙ sym (append_assoc first whole.0 whole.1)),
      IsHeadText-lines first whole.0 line whole.3,
    )
some_second text first rest e line (inr (inl fails)) =
    inr (inl (129 + fails.0, subst (λ (t : List ℕ). FailsAt IsHeadText t (129 + fails.0)) (sym e) (FailsAt-second first rest fails.0 line fails.1)))
some_second text first rest e line (inr (inr part)) =
    inr (inr (subst (IsPart IsHeadText) (sym e) (IsPart-second first rest line part)))

-- of heads
pub some_head : (text : List ℕ) → Stands IsHeadText text
some_head text =
    elim (some_line 128 128 (omega arith) refl text) [
      | inr (inl fails) ↦ inr (inl (fails.0, FailsAt-first text fails.0 fails.1))
      | inr (inr part) ↦ inr (inr (IsPart-first text part))
      | inl whole ↦ some_second text whole.0 whole.1 whole.2 whole.3 (some_line 0 8192 (omega arith) refl whole.1)
    ]

-- ---- the inputs of a command

-- a command of whose inputs none begins another
abbrev pub IsAlone : Command → Type 0
IsAlone (Seal suite) = ⊥
IsAlone command = Unit {0}

-- nothing is the one input of `gen`
nothing_end : (a b more rest : List ℕ) → a ≡ [] → b ≡ [] → a ++ more ≡ b ++ rest → (a ≡ b) × (more ≡ rest)
nothing_end a b more rest none other e = (none ∙ sym other, ap (λ (t : List ℕ). t ++ more) (sym none) ∙ (e ∙ ap (λ (t : List ℕ). t ++ rest) other))

-- no input of such a command begins another
pub one_input_end : (command : Command) → IsAlone command → NoneBeginsAnother (IsInput command)
one_input_end (Open suite budget) is = one_head_end
one_input_end (Key set) is = one_line_end 128 128
one_input_end (Seal suite) is = absurd is
one_input_end (Gen count) is = nothing_end
