-- What is drawn for grease, step by step, and what it is.
use Rattle.std.proofs.Common.{◌≡◌, ◌≢◌, ◌<◌, ◌≤◌, ◌+◌, ℕ, zero, suc, Bool, true, false, cond, List, [], ◌∷◌, ◌++◌, refl, sym, ap, subst, ◌∙◌, arith}
use Rattle.std.specs.Prelude.{codes, Option, Some, None, IfSome, IfOk, Result, nat_lt}
use Rattle.std.specs.List.{AllByRecursion}
use Rattle.std.proofs.lemmas.Bool.{lt-ltb, le-ltb}
use Rattle.rand_core.specs.Stream.{Stream, next_u32, fill_bytes}
use Rattle.age_format.specs.Stanza.{Stanza, IsArbitraryString, IsBytes, IsStanza, IsVisible}
use Rattle.age_send.specs.Grease.{Drawn, GivesBytes, IsGrease, drawn_number, drawn_list, drawn_characters, drawn_string, drawn_strings, drawn_arguments, drawn_body, drawn_grease}
use Rattle.age_send.specs.Sending.{drawn_roll}
use Rattle.age_send.proofs.Draws.{drawn_list-all, drawn_list-some}

module _ (n : ℕ) (s s1 : Stream) where
  pub string_is : (n, s1) ≡ drawn_number 1 8 s → drawn_string s ≡ drawn_characters n s1
  unfolding drawn_string
  string_is e = rw (← e) refl

  pub arguments_are : (n, s1) ≡ drawn_number 0 4 s → drawn_arguments s ≡ drawn_strings n s1
  unfolding drawn_arguments
  arguments_are e = rw (← e) refl

  pub body_is : (n, s1) ≡ drawn_number 0 99 s → drawn_body s ≡ fill_bytes n s1
  unfolding drawn_body
  body_is e = rw (← e) refl

  pub roll_none : (n, s1) ≡ drawn_number 0 99 s → 5 ≤ n → drawn_roll s ≡ (None, s1)
  unfolding drawn_roll
  roll_none e many = rw (← e, le-ltb n 5 many) refl

  pub roll_some : (n, s1) ≡ drawn_number 0 99 s → n < 5 → drawn_roll s ≡ (Some (drawn_grease s1).0, (drawn_grease s1).1)
  unfolding drawn_roll
  roll_some e few = rw (← e, lt-ltb n 5 few) refl

-- a string of as many characters as its length says, where there was memory for it
pub string_ok : {V E : Type 0} (text : V → List ℕ) (r : Result V E) (k n : ℕ) (s s1 : Stream) → IfOk r (λ v. text v ≡ (drawn_characters k s1).0) → k ≡ n → (n, s1) ≡ drawn_number 1 8 s → IfOk r (λ v. text v ≡ (drawn_string s).0)
string_ok text r k n s s1 h same e = subst (λ (t : List ℕ). IfOk r (λ v. text v ≡ t)) (ap (λ (m : ℕ). (drawn_characters m s1).0) same ∙ ap (λ (d : Drawn (List ℕ)). d.0) (sym (string_is n s s1 e))) h

pub string_rest : (k n : ℕ) (s s1 s2 : Stream) → s2 ≡ (drawn_characters k s1).1 → k ≡ n → (n, s1) ≡ drawn_number 1 8 s → s2 ≡ (drawn_string s).1
string_rest k n s s1 s2 h same e = h ∙ (ap (λ (m : ℕ). (drawn_characters m s1).1) same ∙ ap (λ (d : Drawn (List ℕ)). d.1) (sym (string_is n s s1 e)))

-- a body of as many bytes as its length says
pub body_ok : {V E : Type 0} (bytes : V → List ℕ) (r : Result V E) (k n : ℕ) (s s1 : Stream) → IfOk r (λ v. bytes v ≡ (fill_bytes k s1).0) → k ≡ n → (n, s1) ≡ drawn_number 0 99 s → IfOk r (λ v. bytes v ≡ (drawn_body s).0)
body_ok bytes r k n s s1 h same e = subst (λ (t : List ℕ). IfOk r (λ v. bytes v ≡ t)) (ap (λ (m : ℕ). (fill_bytes m s1).0) same ∙ ap (λ (d : Drawn (List ℕ)). d.0) (sym (body_is n s s1 e))) h

pub body_rest : (k n : ℕ) (s s1 s2 : Stream) → s2 ≡ (fill_bytes k s1).1 → k ≡ n → (n, s1) ≡ drawn_number 0 99 s → s2 ≡ (drawn_body s).1
body_rest k n s s1 s2 h same e = h ∙ (ap (λ (m : ℕ). (fill_bytes m s1).1) same ∙ ap (λ (d : Drawn (List ℕ)). d.1) (sym (body_is n s s1 e)))

-- the parts of a grease stanza
module _ (s s1 s2 : Stream) (first : s1 ≡ (drawn_string s).1) (second : s2 ≡ (drawn_arguments s1).1) where
  pub grease_rest : (s3 : Stream) → s3 ≡ (drawn_body s2).1 → s3 ≡ (drawn_grease s).1
  unfolding drawn_grease
  grease_rest s3 third = rw (← first, ← second) third

  pub grease_value : (tag : List ℕ) (args : List (List ℕ)) (body : List ℕ) → tag ≡ (drawn_string s).0 ++ codes "-grease" → args ≡ (drawn_arguments s1).0 → body ≡ (drawn_body s2).0 → record { tag = tag; args = args; body = body } ≡ (drawn_grease s).0
  unfolding drawn_grease
  grease_value tag args body is_tag are_args is_body = rw (← first, ← second, is_tag, are_args, is_body) refl

-- ---- what is drawn

number_between : (low more : ℕ) (s : Stream) → (low ≤ (drawn_number low (low + more) s).0) × ((drawn_number low (low + more) s).0 ≤ low + more)
unfolding drawn_number
number_between low more s = (omega arith, omega arith)

visible_number : (s : Stream) → IsVisible (drawn_number 33 126 s).0
visible_number s = number_between 33 93 s

string_is_some : (s : Stream) → (drawn_string s).0 ≢ []
unfolding drawn_string
string_is_some s = drawn_list-some (drawn_number 33 126) (drawn_number 1 8 s).0 (drawn_number 1 8 s).1 (number_between 1 7 s).0

string_is_visible : (s : Stream) → AllByRecursion IsVisible (drawn_string s).0
unfolding drawn_string
string_is_visible s = drawn_list-all IsVisible (drawn_number 33 126) visible_number (drawn_number 1 8 s).0 (drawn_number 1 8 s).1

string_is_arbitrary : (s : Stream) → IsArbitraryString (drawn_string s).0
string_is_arbitrary s = (string_is_some s, string_is_visible s)

arguments_are_arbitrary : (s : Stream) → AllByRecursion IsArbitraryString (drawn_arguments s).0
unfolding drawn_arguments
arguments_are_arbitrary s = drawn_list-all IsArbitraryString drawn_string string_is_arbitrary (drawn_number 0 4 s).0 (drawn_number 0 4 s).1

pub all_join : {X : Type 0} (P : X → Type 0) (xs ys : List X) → AllByRecursion P xs → AllByRecursion P ys → AllByRecursion P (xs ++ ys)
all_join P [] ys h k = k
all_join P (x ∷ xs) ys h k = (h.0, all_join P xs ys h.1 k)

not_empty : (xs ys : List ℕ) → xs ≢ [] → xs ++ ys ≢ []
not_empty [] ys some e = some refl
not_empty (x ∷ xs) ys some e = cc

suffix_is_visible : AllByRecursion IsVisible (codes "-grease")
suffix_is_visible =
    let visible : (b : ℕ) → 45 ≤ b → b ≤ 122 → IsVisible b = λ b low high. (omega arith, omega arith) in
    (visible _ (omega arith) (omega arith), (visible _ (omega arith) (omega arith), (visible _ (omega arith) (omega arith), (visible _ (omega arith) (omega arith), (visible _ (omega arith) (omega arith), (visible _ (omega arith) (omega arith), (visible _ (omega arith) (omega arith), tt)))))))

grease_tag : (s : Stream) → IsArbitraryString (drawn_grease s).0.tag
unfolding drawn_grease
grease_tag s = (not_empty (drawn_string s).0 (codes "-grease") (string_is_some s), all_join IsVisible (drawn_string s).0 (codes "-grease") (string_is_visible s) suffix_is_visible)

grease_args : (s : Stream) → AllByRecursion IsArbitraryString (drawn_grease s).0.args
unfolding drawn_grease
grease_args s = arguments_are_arbitrary (drawn_string s).1

grease_is_grease : (s : Stream) → IsGrease (drawn_grease s).0
unfolding drawn_grease
grease_is_grease s = ((drawn_string s).0, refl)

grease_is_stanza : (s : Stream) → IsBytes (drawn_grease s).0.body → IsStanza (drawn_grease s).0
grease_is_stanza s bytes = record { tag = grease_tag s; args = grease_args s; body = bytes }

-- a choice by a test
choice : (P : Option Stanza → Type 0) (b : Bool) (g : Stanza) (r1 r2 : Stream) → P (Some g) → P None → P (cond {A = Drawn (Option Stanza)} b (Some g, r1) (None, r2)).0
choice P true g r1 r2 h k = h
choice P false g r1 r2 h k = k

-- what a roll makes is grease
pub roll_is_grease : (s : Stream) → IfSome (drawn_roll s).0 IsGrease
unfolding drawn_roll
roll_is_grease s = choice (λ o. IfSome o IsGrease) (nat_lt (drawn_number 0 99 s).0 5) (drawn_grease (drawn_number 0 99 s).1).0 _ _ (grease_is_grease (drawn_number 0 99 s).1) tt

-- and where its body is bytes, a stanza
roll_is_stanza_if : (s : Stream) → IfSome (drawn_roll s).0 (λ x. IsBytes x.body → IsStanza x)
unfolding drawn_roll
roll_is_stanza_if s = choice (λ o. IfSome o (λ x. IsBytes x.body → IsStanza x)) (nat_lt (drawn_number 0 99 s).0 5) (drawn_grease (drawn_number 0 99 s).1).0 _ _ (grease_is_stanza (drawn_number 0 99 s).1) tt

pub roll_stanza : (s : Stream) (x : Stanza) → Some x ≡ (drawn_roll s).0 → IsBytes x.body → IfSome (drawn_roll s).0 IsStanza
roll_stanza s x e bytes =
    let is : IsBytes x.body → IsStanza x = subst (λ (o : Option Stanza). IfSome o (λ x. IsBytes x.body → IsStanza x)) (sym e) (roll_is_stanza_if s) in
    subst (λ (o : Option Stanza). IfSome o IsStanza) e (is bytes)

pub roll_nothing : (s : Stream) → None ≡ (drawn_roll s).0 → IfSome (drawn_roll s).0 IsStanza
roll_nothing s e = subst (λ (o : Option Stanza). IfSome o IsStanza) e tt

-- ---- a stream that gives bytes

gives_number : (low high : ℕ) (s : Stream) → GivesBytes s → GivesBytes (drawn_number low high s).1
unfolding drawn_number next_u32
gives_number low high s h calls n = h (_ ∷ calls) n

gives_list : {A : Type 0} (draw : Stream → Drawn A) → ((s : Stream) → GivesBytes s → GivesBytes (draw s).1) → (n : ℕ) (s : Stream) → GivesBytes s → GivesBytes (drawn_list draw n s).1
unfolding drawn_list
gives_list draw keeps zero s h = h
gives_list draw keeps (suc n) s h = gives_list draw keeps n (draw s).1 (keeps s h)

gives_string : (s : Stream) → GivesBytes s → GivesBytes (drawn_string s).1
unfolding drawn_string
gives_string s h = gives_list (drawn_number 33 126) (gives_number 33 126) (drawn_number 1 8 s).0 (drawn_number 1 8 s).1 (gives_number 1 8 s h)

gives_arguments : (s : Stream) → GivesBytes s → GivesBytes (drawn_arguments s).1
unfolding drawn_arguments
gives_arguments s h = gives_list drawn_string gives_string (drawn_number 0 4 s).0 (drawn_number 0 4 s).1 (gives_number 0 4 s h)

body_bytes : (s : Stream) → GivesBytes s → IsBytes (drawn_body s).0
unfolding drawn_body fill_bytes
body_bytes s h = gives_number 0 99 s h [] (drawn_number 0 99 s).0

gives_body : (s : Stream) → GivesBytes s → GivesBytes (drawn_body s).1
unfolding drawn_body fill_bytes
gives_body s h calls n = gives_number 0 99 s h (_ ∷ calls) n

grease_bytes : (s : Stream) → GivesBytes s → IsBytes (drawn_grease s).0.body
unfolding drawn_grease
grease_bytes s h = body_bytes (drawn_arguments (drawn_string s).1).1 (gives_arguments (drawn_string s).1 (gives_string s h))

gives_grease : (s : Stream) → GivesBytes s → GivesBytes (drawn_grease s).1
unfolding drawn_grease
gives_grease s h = gives_body (drawn_arguments (drawn_string s).1).1 (gives_arguments (drawn_string s).1 (gives_string s h))

rest_choice : (P : Stream → Type 0) (b : Bool) (g : Stanza) (r1 r2 : Stream) → P r1 → P r2 → P (cond {A = Drawn (Option Stanza)} b (Some g, r1) (None, r2)).1
rest_choice P true g r1 r2 h k = h
rest_choice P false g r1 r2 h k = k

pub gives_roll : (s : Stream) → GivesBytes s → GivesBytes (drawn_roll s).1
unfolding drawn_roll
gives_roll s h =
    let behind = gives_number 0 99 s h in
    rest_choice GivesBytes (nat_lt (drawn_number 0 99 s).0 5) (drawn_grease (drawn_number 0 99 s).1).0 (drawn_grease (drawn_number 0 99 s).1).1 (drawn_number 0 99 s).1 (gives_grease (drawn_number 0 99 s).1 behind) behind

pub roll_is_stanza : (s : Stream) → GivesBytes s → IfSome (drawn_roll s).0 IsStanza
unfolding drawn_roll
roll_is_stanza s h =
    let s1 = (drawn_number 0 99 s).1 in
    choice (λ o. IfSome o IsStanza) (nat_lt (drawn_number 0 99 s).0 5) (drawn_grease s1).0 _ _ (grease_is_stanza s1 (grease_bytes s1 (gives_number 0 99 s h))) tt
