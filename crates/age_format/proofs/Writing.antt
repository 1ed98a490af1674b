-- One write after another.
use Rattle.std.proofs.Common.{◌≡◌, ◌≢◌, ℕ, ◌+◌, List, [], ◌++◌, length, Option, Some, None, refl, sym, ap, subst, ◌∙◌, append_assoc, arith}
use Rattle.std.specs.Prelude.{◌≤◌, IfSome, Result, Ok, Err}
use Rattle.std.proofs.lemmas.List.{append-nil, append_cancel_left, length-append, nil_from_length}
use Rattle.age_format.specs.Outside.{Gains, GainsPart, Lacks, Rose, Wrote, WrotePart, WroteLess, Writes, WritesWhole}

gains_then : (a b c : Option (List ℕ)) (x y : List ℕ) → Gains a b x → Gains b c y → Gains a c (x ++ y)
gains_then None b c x y h k = tt
gains_then (Some text) b c x y h k =
    subst (λ (o : Option (List ℕ)). IfSome o (λ got. c ≡ Some (got ++ y))) h k ∙ ap Some (append_assoc text x y)

gains_part : (a b c : Option (List ℕ)) (x y z : List ℕ) → Gains a b x → GainsPart b c y → GainsPart a c (x ++ (y ++ z))
gains_part None b c x y z h k = tt
gains_part (Some text) b c x y z h k =
    let part = subst (λ (o : Option (List ℕ)). IfSome o (λ got. (p : List ℕ) × (r : List ℕ) × (y ≡ p ++ r) × (c ≡ Some (got ++ p)))) h k in
    let whole : x ++ (y ++ z) ≡ (x ++ part.0) ++ (part.1 ++ z) = ap (λ (t : List ℕ). x ++ (t ++ z)) part.2 ∙ simp append_assoc in
    (x ++ part.0, part.1 ++ z, whole, part.3 ∙ ap Some (append_assoc text x part.0))

pub gains_front : (a c : Option (List ℕ)) (x z : List ℕ) → GainsPart a c x → GainsPart a c (x ++ z)
gains_front None c x z h = tt
gains_front (Some text) c x z h = (h.0, h.1 ++ z, ap (λ (t : List ℕ). t ++ z) h.2 ∙ append_assoc h.0 h.1 z, h.3)

gains_nothing : (a : Option (List ℕ)) → Gains a a []
gains_nothing None = tt
gains_nothing (Some text) = ap Some (sym (append-nil text))

-- behind an output, a part of the next
pub gains_behind : (a b c : Option (List ℕ)) (x y : List ℕ) → Gains a b x → GainsPart b c y → IfSome a (λ had. GainsPart (Some (had ++ x)) c y)
gains_behind None b c x y h k = tt
gains_behind (Some text) b c x y h k = subst (λ (o : Option (List ℕ)). GainsPart o c y) h k

-- behind an output, not the whole of the next: not the whole of both
lacks_then : (a b c : Option (List ℕ)) (x y : List ℕ) → Gains a b x → Lacks b c y → Lacks a c (x ++ y)
lacks_then None b c x y h k = tt
lacks_then (Some text) b c x y h k = λ e. subst (λ (o : Option (List ℕ)). Lacks o c y) h k (e ∙ sym (ap Some (append_assoc text x y)))

-- a part of a front that isn't the whole front isn't the whole either
lacks_front : (a c : Option (List ℕ)) (x z : List ℕ) → GainsPart a c x → Lacks a c x → Lacks a c (x ++ z)
lacks_front None c x z h k = tt
lacks_front (Some text) c x z h k = λ e.
    let told : Some (text ++ h.0) ≡ Some (text ++ (x ++ z)) = sym h.3 ∙ e in
    let same : text ++ h.0 ≡ text ++ (x ++ z) = cc in
    let part : h.0 ≡ x ++ z = append_cancel_left text h.0 (x ++ z) same in
    let long : length h.0 ≡ length x + length z = ap length part ∙ length-append x z in
    let parts : length x ≡ length h.0 + length h.1 = ap length h.2 ∙ length-append h.0 h.1 in
    let nil : h.1 ≡ [] = nil_from_length h.1 (omega arith) in
    let whole : x ≡ h.0 = h.2 ∙ (ap (λ (t : List ℕ). h.0 ++ t) nil ∙ append-nil h.0) in
    k (h.3 ∙ ap (λ (t : List ℕ). Some (text ++ t)) (sym whole))

-- what was written so far is a part, where a rest is left
part_left : (before at now : Option (List ℕ)) (x rest : List ℕ) → IfSome before (λ had. (done : List ℕ) × (x ≡ done ++ rest) × (at ≡ Some (had ++ done))) → now ≡ at → GainsPart before now x
part_left None at now x rest h e = tt
part_left (Some had) at now x rest h e = (h.0, rest, h.1, e ∙ h.2)

-- and isn't the whole, where the rest isn't empty
lacks_left : (before at now : Option (List ℕ)) (x rest : List ℕ) → IfSome before (λ had. (done : List ℕ) × (x ≡ done ++ rest) × (at ≡ Some (had ++ done))) → now ≡ at → rest ≢ [] → Lacks before now x
lacks_left None at now x rest h e some = tt
lacks_left (Some had) at now x rest h e some = λ all.
    let told : Some (had ++ h.0) ≡ Some (had ++ x) = sym (e ∙ h.2) ∙ all in
    let same : had ++ h.0 ≡ had ++ x = cc in
    let part : h.0 ≡ x = append_cancel_left had h.0 x same in
    let long : length h.0 ≡ length x = ap length part in
    let parts : length x ≡ length h.0 + length rest = ap length h.1 ∙ length-append h.0 rest in
    some (nil_from_length rest (omega arith))

module _ {W : Type 0} (got : W → Option (List ℕ)) (faults : W → ℕ) (plan : W → List ℕ) where
  -- nothing
  pub wrote_nothing : (a : W) → Wrote got faults plan a a []
  wrote_nothing a = record { gained = gains_nothing (got a); no_fault = refl; same_plan = refl }

  -- one output after another
  pub wrote_then : (a b c : W) (x y : List ℕ) → Wrote got faults plan a b x → Wrote got faults plan b c y → Wrote got faults plan a c (x ++ y)
  wrote_then a b c x y h k = record {
    gained = gains_then (got a) (got b) (got c) x y h.gained k.gained;
    no_fault = k.no_fault ∙ h.no_fault;
    same_plan = k.same_plan ∙ h.same_plan;
  }

  -- an output, and a part of what follows it, is a part of all
  pub part_then : (a b c : W) (x y z : List ℕ) → Wrote got faults plan a b x → WrotePart got faults plan b c y → WrotePart got faults plan a c (x ++ (y ++ z))
  part_then a b c x y z h k = record {
    gained = gains_part (got a) (got b) (got c) x y z h.gained k.gained;
    fault = subst (λ (n : ℕ). Rose n (faults c)) h.no_fault k.fault;
    no_fall = subst (λ (n : ℕ). n ≤ faults c) h.no_fault k.no_fall;
    same_plan = k.same_plan ∙ h.same_plan;
  }

  pub part_last : (a b c : W) (x y : List ℕ) → Wrote got faults plan a b x → WrotePart got faults plan b c y → WrotePart got faults plan a c (x ++ y)
  part_last a b c x y h k = subst (λ (t : List ℕ). WrotePart got faults plan a c (x ++ t)) (append-nil y) (part_then a b c x y [] h k)

  -- a part of a front is a part of the whole
  pub part_front : (a c : W) (x z : List ℕ) → WrotePart got faults plan a c x → WrotePart got faults plan a c (x ++ z)
  part_front a c x z h = record { gained = gains_front (got a) (got c) x z h.gained; fault = h.fault; no_fall = h.no_fall; same_plan = h.same_plan }

  -- behind an output, a last call that writes
  pub writes_last : {A E : Type 0} (a b c : W) (result : Result A E) (x y : List ℕ) → Wrote got faults plan a b x → Writes got faults plan b c result y → Writes got faults plan a c result (x ++ y)
  writes_last a b c (Ok r) x y h k = wrote_then a b c x y h k
  writes_last a b c (Err e) x y h k = part_last a b c x y h k

  -- the same of less than the whole
  pub less_then : (a b c : W) (x y z : List ℕ) → Wrote got faults plan a b x → WroteLess got faults plan b c y → WroteLess got faults plan a c (x ++ (y ++ z))
  less_then a b c x y z h k = record {
    part = part_then a b c x y z h k.part;
    lacks = lacks_then (got a) (got b) (got c) x (y ++ z) h.gained (lacks_front (got b) (got c) y z k.part.gained k.lacks);
  }

  pub less_last : (a b c : W) (x y : List ℕ) → Wrote got faults plan a b x → WroteLess got faults plan b c y → WroteLess got faults plan a c (x ++ y)
  less_last a b c x y h k = record { part = part_last a b c x y h k.part; lacks = lacks_then (got a) (got b) (got c) x y h.gained k.lacks }

  pub less_front : (a c : W) (x z : List ℕ) → WroteLess got faults plan a c x → WroteLess got faults plan a c (x ++ z)
  less_front a c x z h = record { part = part_front a c x z h.part; lacks = lacks_front (got a) (got c) x z h.part.gained h.lacks }

  pub whole_last : {A E : Type 0} (a b c : W) (result : Result A E) (x y : List ℕ) → Wrote got faults plan a b x → WritesWhole got faults plan b c result y → WritesWhole got faults plan a c result (x ++ y)
  whole_last a b c (Ok r) x y h k = wrote_then a b c x y h k
  whole_last a b c (Err e) x y h k = less_last a b c x y h k

  -- what says the whole says a part
  pub writes_of : {A E : Type 0} (a b : W) (result : Result A E) (x : List ℕ) → WritesWhole got faults plan a b result x → Writes got faults plan a b result x
  writes_of a b (Ok r) x h = h
  writes_of a b (Err e) x h = h.part

  -- the sink failed where a rest, which isn't empty, was left
  pub less_left : (a b c : W) (x rest : List ℕ) → IfSome (got a) (λ had. (done : List ℕ) × (x ≡ done ++ rest) × (got b ≡ Some (had ++ done))) → faults b ≡ faults a → plan b ≡ plan a → rest ≢ []
      → Rose (faults b) (faults c) → got c ≡ got b → plan c ≡ plan b → faults b ≤ faults c → WroteLess got faults plan a c x
  less_left a b c x rest wrote none same more fault untaken plan_is rises = record {
    part = record {
      gained = part_left (got a) (got b) (got c) x rest wrote untaken;
      fault = subst (λ (n : ℕ). Rose n (faults c)) none fault;
      no_fall = subst (λ (n : ℕ). n ≤ faults c) none rises;
      same_plan = plan_is ∙ same;
    };
    lacks = lacks_left (got a) (got b) (got c) x rest wrote untaken more;
  }
