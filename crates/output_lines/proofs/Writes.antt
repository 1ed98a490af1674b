-- What is held for the sink, digits, lines and numbers.
use Rattle.std.proofs.Common.{◌≡◌, ℕ, zero, suc, Bool, true, ◌+◌, ◌/◌, ◌%◌, ◌<◌, List, [], ◌∷◌, ◌++◌, length, take, drop, get_or, Option, Some, None, refl, sym, ap, subst, ◌∙◌, append_assoc, arith}
use Rattle.std.specs.Prelude.{◌==◌, ◌≤◌, IfSome, Result, Ok, Err, decimal, slice_get}
use Rattle.std.proofs.lemmas.Bool.{eqb-true}
use Rattle.std.proofs.lemmas.List.{append-nil, nil_from_length, take-append-drop, take_more, drop_more}
use Rattle.std.proofs.lemmas.List.Concat.{flat_map-append}
use Rattle.std.proofs.lemmas.Option.{none-some}
use Rattle.hex.specs.Hex.{encode_with, encode_lower, lower_digits}
use Rattle.age_format.specs.Outside.{Wrote, WrotePart, Writes}
use Rattle.age_format.proofs.Writing.{part_last, part_then, wrote_nothing, wrote_then}
use Rattle.output_lines.specs.Lines.{lines, spaced}
use Rattle.output_lines.specs.private.Holding.{Hands}

module _ {W : Type 0} (got : W → Option (List ℕ)) (faults : W → ℕ) (plan : W → List ℕ) where
  -- ---- what is held for the sink

  -- nothing is handed over
  pub hands_nothing : (a : W) (p : List ℕ) → Hands got faults plan a a p p []
  hands_nothing a p = ([], wrote_nothing got faults plan a, append-nil p)

  -- all is handed over
  pub hands_all : (a b : W) (p q : List ℕ) → Wrote got faults plan a b p → q ≡ [] → Hands got faults plan a b p q []
  hands_all a b p q h nil = (p, h, ap (λ (t : List ℕ). p ++ t) (sym nil))

  -- one output after another
  pub hands_then : (a b c : W) (p q r x y : List ℕ) → Hands got faults plan a b p q x → Hands got faults plan b c q r y → Hands got faults plan a c p r (x ++ y)
  hands_then a b c p q r x y h k = (
    h.0 ++ k.0,
    wrote_then got faults plan a b c h.0 k.0 h.1 k.1,
    sym (append_assoc p x y) ∙ (ap (λ (t : List ℕ). t ++ y) h.2 ∙ (append_assoc h.0 q y ∙ (ap (λ (t : List ℕ). h.0 ++ t) k.2 ∙ sym (append_assoc h.0 k.0 r)))),
  )

  -- behind an output, a part of what was held then and of another output was handed over: a part of the
  -- whole
  pub hands_part : (a b c : W) (p q x y z : List ℕ) → Hands got faults plan a b p q x → WrotePart got faults plan b c (q ++ y) → WrotePart got faults plan a c (p ++ (x ++ (y ++ z)))
  hands_part a b c p q x y z h k =
      let whole : p ++ (x ++ (y ++ z)) ≡ h.0 ++ ((q ++ y) ++ z) =
      sym (append_assoc p x (y ++ z)) ∙ (ap (λ (t : List ℕ). t ++ (y ++ z)) h.2 ∙ (append_assoc h.0 q (y ++ z) ∙ ap (λ (t : List ℕ). h.0 ++ t) (sym (append_assoc q y z)))) in
      subst (WrotePart got faults plan a c) (sym whole) (part_then got faults plan a b c h.0 (q ++ y) z h.1 k)

  -- the same where no other output follows
  pub hands_part_last : (a b c : W) (p q x : List ℕ) → Hands got faults plan a b p q x → WrotePart got faults plan b c q → WrotePart got faults plan a c (p ++ x)
  hands_part_last a b c p q x h k =
      subst (λ (t : List ℕ). WrotePart got faults plan a c (p ++ t)) (append-nil x) (hands_part a b c p q x [] [] h (subst (WrotePart got faults plan b c) (sym (append-nil q)) k))

  -- behind an output, all that is held is handed over
  pub hands_wrote : (a b c : W) (p q x : List ℕ) → Hands got faults plan a b p q x → Wrote got faults plan b c q → Wrote got faults plan a c (p ++ x)
  hands_wrote a b c p q x h k = subst (Wrote got faults plan a c) (sym h.2) (wrote_then got faults plan a b c h.0 q h.1 k)

  -- the same of a call that writes
  pub writes_held : {A E : Type 0} (a b c : W) (result : Result A E) (p q x : List ℕ) → Hands got faults plan a b p q x → Writes got faults plan b c result q → Writes got faults plan a c result (p ++ x)
  writes_held a b c (Ok r) p q x h k = hands_wrote a b c p q x h k
  writes_held a b c (Err e) p q x h k = hands_part_last a b c p q x h k

  -- more is held, and more is due
  pub hands_pushed : (a b : W) (p q x y : List ℕ) → Hands got faults plan a b p q x → Hands got faults plan a b p (q ++ y) (x ++ y)
  hands_pushed a b p q x y h = (h.0, h.1, sym (append_assoc p x y) ∙ (ap (λ (t : List ℕ). t ++ y) h.2 ∙ append_assoc h.0 q y))

-- ---- digits

pub encode_with-append : (t xs ys : List ℕ) → encode_with t (xs ++ ys) ≡ encode_with t xs ++ encode_with t ys
unfolding encode_with
encode_with-append t [] ys = refl
encode_with-append t (x ∷ xs) ys = ap (λ (ds : List ℕ). get_or t (x / 16) 0 ∷ get_or t (x % 16) 0 ∷ ds) (encode_with-append t xs ys)

pub encode_split : (n : ℕ) (bytes : List ℕ) → encode_lower bytes ≡ encode_lower (take n bytes) ++ encode_lower (drop n bytes)
encode_split n bytes = ap encode_lower (sym (take-append-drop n bytes)) ∙ encode_with-append lower_digits (take n bytes) (drop n bytes)

pub encode_nothing : encode_lower [] ≡ []
unfolding encode_with
encode_nothing = refl

-- a chunk more was written or is held
pub digits_more : {W : Type 0} (got : W → Option (List ℕ)) (faults : W → ℕ) (plan : W → List ℕ) (before mid now : W) (n : ℕ) (p q r whole done bytes : List ℕ) → whole ≡ done ++ encode_lower bytes
    → Hands got faults plan before mid p q done → Hands got faults plan mid now q r (encode_lower (take n bytes)) → (more : List ℕ) × (whole ≡ more ++ encode_lower (drop n bytes)) × Hands got faults plan before now p r more
digits_more got faults plan before mid now n p q r whole done bytes is h k = (
  done ++ encode_lower (take n bytes),
  is ∙ (ap (λ (t : List ℕ). done ++ t) (encode_split n bytes) ∙ sym (append_assoc done (encode_lower (take n bytes)) (encode_lower (drop n bytes)))),
  hands_then got faults plan before mid now p q r done (encode_lower (take n bytes)) h k,
)

-- the digits of a line, with a chunk of them written out
pub line_split : (whole done bytes : List ℕ) (n : ℕ) → whole ≡ done ++ encode_lower bytes → whole ++ 10 ∷ [] ≡ done ++ (encode_lower (take n bytes) ++ (encode_lower (drop n bytes) ++ 10 ∷ []))
line_split whole done bytes n is =
    ap (λ (t : List ℕ). t ++ 10 ∷ []) is ∙ (append_assoc done (encode_lower bytes) (10 ∷ [])
    ∙ (ap (λ (t : List ℕ). done ++ (t ++ 10 ∷ [])) (encode_split n bytes) ∙ ap (λ (t : List ℕ). done ++ t) (append_assoc (encode_lower (take n bytes)) (encode_lower (drop n bytes)) (10 ∷ []))))

-- no byte is left, and so no digits are
pub digits_all : (whole done rest : List ℕ) (none : Bool) → none ≡ (length rest == 0) → none ≡ true → whole ≡ done ++ encode_lower rest → done ≡ whole
digits_all whole done rest none is t split =
    let nil : rest ≡ [] = nil_from_length rest (eqb-true (length rest) 0 (sym is ∙ t)) in
    sym (split ∙ (ap (λ (bytes : List ℕ). done ++ encode_lower bytes) nil ∙ (ap (λ (t : List ℕ). done ++ t) encode_nothing ∙ append-nil done)))

-- ---- lines

get_nothing : (i : ℕ) (x : List ℕ) → slice_get [] i ≡ Some x → ⊥
get_nothing zero x e = none-some x e
get_nothing (suc i) x e = none-some x e

drop_get : (xs : List (List ℕ)) (i : ℕ) (x : List ℕ) → slice_get xs i ≡ Some x → drop i xs ≡ x ∷ drop (i + 1) xs
drop_get [] i x e = absurd (get_nothing i x e)
drop_get (y ∷ ys) zero x e = let same : y ≡ x = cc in ap (λ (z : List ℕ). z ∷ ys) same
drop_get (y ∷ ys) (suc i) x e = let k : suc (i + 1) ≡ suc i + 1 = omega arith in drop_get ys i x e ∙ ap (λ (n : ℕ). x ∷ drop n (y ∷ ys)) k

take_get : (xs : List (List ℕ)) (i : ℕ) (x : List ℕ) → slice_get xs i ≡ Some x → take (i + 1) xs ≡ take i xs ++ x ∷ []
take_get [] i x e = absurd (get_nothing i x e)
take_get (y ∷ ys) zero x e = let same : y ≡ x = cc in ap (λ (z : List ℕ). z ∷ []) same
take_get (y ∷ ys) (suc i) x e = let k : suc i + 1 ≡ suc (i + 1) = omega arith in ap (λ (n : ℕ). take n (y ∷ ys)) k ∙ ap (λ (t : List (List ℕ)). y ∷ t) (take_get ys i x e)

-- the messages, with the one at a place written out
pub lines_split : (messages : List (List ℕ)) (i : ℕ) (message : List ℕ) → slice_get messages i ≡ Some message → lines messages ≡ lines (take i messages) ++ ((encode_lower message ++ 10 ∷ []) ++ lines (drop (i + 1) messages))
lines_split messages i message is =
    let whole : messages ≡ take i messages ++ message ∷ drop (i + 1) messages = sym (take-append-drop i messages) ∙ ap (λ (t : List (List ℕ)). take i messages ++ t) (drop_get messages i message is) in
    ap lines whole ∙ flat_map-append (λ m. encode_lower m ++ 10 ∷ []) (take i messages) (message ∷ drop (i + 1) messages)

-- one message more
pub lines_more : (messages : List (List ℕ)) (i : ℕ) (message : List ℕ) → slice_get messages i ≡ Some message → lines (take (i + 1) messages) ≡ lines (take i messages) ++ (encode_lower message ++ 10 ∷ [])
lines_more messages i message is =
    ap lines (take_get messages i message is) ∙ (flat_map-append (λ m. encode_lower m ++ 10 ∷ []) (take i messages) (message ∷ []) ∙ ap (λ (t : List ℕ). lines (take i messages) ++ t) (append-nil (encode_lower message ++ 10 ∷ [])))

-- ---- numbers

-- one number more
pub spaced_more : (numbers : List ℕ) (i : ℕ) → i < length numbers → spaced (take (i + 1) numbers) ≡ spaced (take i numbers) ++ (32 ∷ decimal (get_or numbers i 0))
spaced_more numbers i lt =
    ap spaced (take_more numbers i 0 lt) ∙ (flat_map-append (λ n. 32 ∷ decimal n) (take i numbers) (get_or numbers i 0 ∷ []) ∙ ap (λ (t : List ℕ). spaced (take i numbers) ++ t) (append-nil (32 ∷ decimal (get_or numbers i 0))))

-- the numbers, with the one at a place written out
pub spaced_split : (numbers : List ℕ) (i : ℕ) → i < length numbers → spaced numbers ≡ spaced (take i numbers) ++ ((32 ∷ decimal (get_or numbers i 0)) ++ spaced (drop (i + 1) numbers))
spaced_split numbers i lt =
    ap spaced (sym (take-append-drop i numbers) ∙ ap (λ (t : List ℕ). take i numbers ++ t) (drop_more numbers i 0 lt))
    ∙ flat_map-append (λ n. 32 ∷ decimal n) (take i numbers) (get_or numbers i 0 ∷ drop (i + 1) numbers)
