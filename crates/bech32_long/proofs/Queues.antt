-- Bits that wait to be written.
use Rattle.std.proofs.Common.{◌≡◌, ℕ, zero, suc, ◌+◌, ◌-◌, ◌*◌, ◌/◌, ◌%◌, ◌^◌, ◌<◌, ◌≤◌, List, [], ◌∷◌, ◌++◌, length, take, get_or, All, refl, sym, ap, ◌∙◌, append_assoc, add-one, arith, inl, inr}
use Rattle.std.proofs.lemmas.Nat.{shr-shr, shr_high, shr_split, mod-pow-add, mod_low, field_of, mod_below, pow_pos, pow-add, mul-le, shr_below, shl-shr}
use Rattle.std.proofs.lemmas.Bool.{cases_lt}
use Rattle.std.proofs.lemmas.List.{get_or_append_left, get_or_at, get_or_past, take_at, take_all, length_push}
use Rattle.std.proofs.lemmas.List.Elements.{All-push, All-nil}
use Rattle.bech32_long.specs.Groups.{number_of, digits_of, group_count, groups, byte_count, leftover_count, whole_bytes}
use Rattle.bech32_long.specs.private.Waiting.{Waits, IsSplitting, IsReady, IsJoining}
use Rattle.bech32_long.proofs.DigitLemmas.{digits_of-push, number_of-more, number_of-nil, number_of-push}

-- d more bits are held: the written ones stay
quotient-pulled : (number count digit d : ℕ) → digit < 2 ^ d → (number * 2 ^ d + digit) / 2 ^ (count + d) ≡ number / 2 ^ count
quotient-pulled number count digit d h =
    let turned : count + d ≡ d + count = omega arith in
    ap (λ (k : ℕ). (number * 2 ^ d + digit) / 2 ^ k) turned ∙ sym (shr-shr (number * 2 ^ d + digit) d count)
    ∙ ap (λ (q : ℕ). q / 2 ^ count) (shr_high number d digit h)

rest-pulled : (number count digit d : ℕ) → digit < 2 ^ d → (number * 2 ^ d + digit) % 2 ^ (count + d) ≡ number % 2 ^ count * 2 ^ d + digit
rest-pulled number count digit d h =
    let split : (number * 2 ^ d + digit) % 2 ^ (count + d) ≡ ((number * 2 ^ d + digit) / 2 ^ d % 2 ^ count) * 2 ^ d + (number * 2 ^ d + digit) % 2 ^ d = mod-pow-add (number * 2 ^ d + digit) count d in
    (rw (shr_high number d digit h, mod_low number d digit h) at split)

pub Waits-pulled : (base number : ℕ) (out : List ℕ) (n held count digit d : ℕ) → digit < 2 ^ d → Waits base number out n held count
    → Waits base (number * 2 ^ d + digit) out n (held * 2 ^ d + digit) (count + d)
Waits-pulled base number out n held count digit d h w = record {
  written = w.written ∙ ap (digits_of base n) (sym (quotient-pulled number count digit d h));
  waiting = ap (λ (k : ℕ). k * 2 ^ d + digit) w.waiting ∙ sym (rest-pulled number count digit d h);
}

-- w of the held bits are written as a digit
pub Waits-written : (w number : ℕ) (out : List ℕ) (n held count : ℕ) → Waits (2 ^ w) number out n held (count + w)
    → Waits (2 ^ w) number (out ++ held / 2 ^ count ∷ []) (suc n) (held % 2 ^ count) count
Waits-written w number out n held count h =
    let turned : count + w ≡ w + count = omega arith in
    let rest : held ≡ number % 2 ^ (w + count) = h.waiting ∙ ap (λ (k : ℕ). number % 2 ^ k) turned in
    let digit : held / 2 ^ count ≡ number / 2 ^ count % 2 ^ w = ap (λ (k : ℕ). k / 2 ^ count) rest ∙ field_of number w count in
    let high : number / 2 ^ count / 2 ^ w ≡ number / 2 ^ (count + w) = shr-shr number count w in
    let below : number / 2 ^ count % 2 ^ w < 2 ^ w = mod_below (number / 2 ^ count) (2 ^ w) (pow_pos w) in
    let whole : number / 2 ^ (count + w) * 2 ^ w + number / 2 ^ count % 2 ^ w ≡ number / 2 ^ count =
    ap (λ (q : ℕ). q * 2 ^ w + number / 2 ^ count % 2 ^ w) (sym high) ∙ shr_split (number / 2 ^ count) w in
    record {
      written = ap (λ (xs : List ℕ). xs ++ held / 2 ^ count ∷ []) h.written
          ∙ ap (λ (d : ℕ). digits_of (2 ^ w) n (number / 2 ^ (count + w)) ++ d ∷ []) digit
          ∙ digits_of-push (2 ^ w) n (number / 2 ^ (count + w)) (number / 2 ^ count % 2 ^ w) below
          ∙ ap (digits_of (2 ^ w) (suc n)) whole;
      waiting = ap (λ (k : ℕ). k % 2 ^ count) (rest ∙ mod-pow-add number w count)
          ∙ mod_low (number / 2 ^ count % 2 ^ w) count (number % 2 ^ count) (mod_below number (2 ^ count) (pow_pos count));
    }

-- d more bits are held, and still fit
small-pulled : (held count digit d : ℕ) → held < 2 ^ count → digit < 2 ^ d → held * 2 ^ d + digit < 2 ^ (count + d)
small-pulled held count digit d h below =
    let more : (held + 1) * 2 ^ d ≤ 2 ^ count * 2 ^ d = mul-le (held + 1) (2 ^ d) (2 ^ count) (2 ^ d) (omega arith) (omega arith) in
    omega (arith, pow-add 2 count d)

-- ---- bytes as groups

get_or-padded : (bytes : List ℕ) (next : ℕ) → next ≤ length bytes → get_or (bytes ++ 0 ∷ []) next 0 ≡ get_or bytes next 0
get_or-padded bytes next h = elim (cases_lt next (length bytes)) [
  | inl lt ↦ get_or_append_left bytes (0 ∷ []) 0 next lt
  | inr ge ↦ get_or_at bytes 0 [] 0 next (omega arith) ∙ sym (get_or_past bytes next 0 ge)
]

pub IsReady-pulled : (bytes out : List ℕ) (k next held count : ℕ) → get_or bytes next 0 < 256 → k < group_count (length bytes) → count < 5
    → IsSplitting (number_of 256 (take next (bytes ++ 0 ∷ []))) out k next held count
    → IsReady (number_of 256 (take (next + 1) (bytes ++ 0 ∷ []))) out k (next + 1) (held * 256 + get_or bytes next 0) (count + 8)
IsReady-pulled bytes out k next held count byte room few s =
    let bits : 5 * k + count ≡ 8 * next = s.bits in
    let within : next ≤ length bytes = omega arith in
    let more : number_of 256 (take (next + 1) (bytes ++ 0 ∷ [])) ≡ number_of 256 (take next (bytes ++ 0 ∷ [])) * 256 + get_or bytes next 0 =
    number_of-more 256 (bytes ++ 0 ∷ []) next (omega (arith, length_push bytes 0))
    ∙ ap (λ (b : ℕ). number_of 256 (take next (bytes ++ 0 ∷ [])) * 256 + b) (get_or-padded bytes next within) in
    record {
      waits = rw more (Waits-pulled 32 (number_of 256 (take next (bytes ++ 0 ∷ []))) out k held count (get_or bytes next 0) 8 byte s.waits);
      bits = omega arith;
      enough = omega arith;
      few = omega arith;
      small = small-pulled held count (get_or bytes next 0) 8 s.small byte;
      groups = s.groups;
    }

pub IsReady-held : (number : ℕ) (out : List ℕ) (k next held count : ℕ) → 5 ≤ count → IsSplitting number out k next held count → IsReady number out k next held count
IsReady-held number out k next held count enough s = record {
  waits = s.waits;
  bits = s.bits;
  enough = enough;
  few = let few : count < 8 = s.few in omega arith;
  small = s.small;
  groups = s.groups;
}

pub group-lt : (number : ℕ) (out : List ℕ) (k next held count : ℕ) → IsReady number out k next held count → held / 2 ^ (count - 5) < 32
group-lt number out k next held count r =
    let enough : 5 ≤ count = r.enough in
    let e : 5 + (count - 5) ≡ count = omega arith in
    shr_below held 5 (count - 5) (rw e r.small)

pub IsSplitting-written : (number : ℕ) (out : List ℕ) (k next held count : ℕ) → IsReady number out k next held count
    → IsSplitting number (out ++ held / 2 ^ (count - 5) ∷ []) (k + 1) next (held % 2 ^ (count - 5)) (count - 5)
IsSplitting-written number out k next held count r =
    let enough : 5 ≤ count = r.enough in
    let bits : 5 * k + count ≡ 8 * next = r.bits in
    let few : count < 13 = r.few in
    let e : count - 5 + 5 ≡ count = omega arith in
    let one : k + 1 ≡ suc k = omega arith in
    record {
      waits = rw one (Waits-written 5 number out k held (count - 5) (rw e r.waits));
      bits = omega arith;
      few = omega arith;
      small = mod_below held (2 ^ (count - 5)) (pow_pos (count - 5));
      groups = All-push (λ (v : ℕ). v < 32) out (held / 2 ^ (count - 5)) r.groups (group-lt number out k next held count r);
    }

pub IsSplitting-nil : IsSplitting (number_of 256 []) [] 0 0 0 0
unfolding digits_of number_of
IsSplitting-nil = record {
  waits = record { written = refl; waiting = refl };
  bits = refl;
  few = omega arith;
  small = omega arith;
  groups = All-nil (λ (v : ℕ). v < 32);
}

-- the last group holds the last bits and zeros
filled : (number count fill : ℕ) → count + fill ≡ 8 → (number * 256 + 0) / 2 ^ count ≡ number * 2 ^ fill
filled number count fill e =
    let turned : fill + count ≡ 8 = omega arith in
    let power : 2 ^ fill * 2 ^ count ≡ 256 = sym (pow-add 2 fill count) ∙ ap (λ (k : ℕ). 2 ^ k) turned in
    let whole : number * 256 + 0 ≡ number * 2 ^ fill * 2 ^ count = omega (arith, ap (λ (k : ℕ). number * k) power) in
    ap (λ (n : ℕ). n / 2 ^ count) whole ∙ shl-shr (number * 2 ^ fill) count

pub IsSplitting-done : (bytes out : List ℕ) (k next held count : ℕ) → k ≡ group_count (length bytes)
    → IsSplitting (number_of 256 (take next (bytes ++ 0 ∷ []))) out k next held count → out ≡ groups bytes
unfolding groups
IsSplitting-done bytes out k next held count all s =
    let bits : 5 * k + count ≡ 8 * next = s.bits in
    let few : count < 8 = s.few in
    let fill : ℕ = 5 * group_count (length bytes) - 8 * length bytes in
    let number : number_of 256 (take next (bytes ++ 0 ∷ [])) / 2 ^ count ≡ number_of 256 bytes * 2 ^ fill = elim (cases_lt next (length bytes + 1)) [
      | inl lt ↦
          let place : length bytes ≡ next = omega arith in
          let none : count ≡ 0 = omega arith in
          let nothing : fill ≡ 0 = omega arith in
          rw (take_at bytes (0 ∷ []) next place, none, nothing) (omega arith)
      | inr ge ↦
          let whole : take next (bytes ++ 0 ∷ []) ≡ bytes ++ 0 ∷ [] = take_all next (bytes ++ 0 ∷ []) (omega (arith, length_push bytes 0)) in
          rw (whole, number_of-push 256 bytes 0) (filled (number_of 256 bytes) count fill (omega arith))
    ] in
    s.waits.written ∙ ap (λ (n : ℕ). digits_of 32 n (number_of 256 (take next (bytes ++ 0 ∷ [])) / 2 ^ count)) all ∙ ap (digits_of 32 (group_count (length bytes))) number

-- ---- groups as bytes

pub IsJoining-nil : (bytes : List ℕ) → bytes ≡ [] → IsJoining (number_of 32 []) bytes 0 0 0
unfolding digits_of number_of
IsJoining-nil bytes e = rw e record {
  waits = record { written = refl; waiting = refl };
  bits = refl;
  few = omega arith;
  small = omega arith;
}

joining-pulled : (values bytes : List ℕ) (i held count : ℕ) → i < length values → get_or values i 0 < 32
    → IsJoining (number_of 32 (take i values)) bytes i held count
    → Waits 256 (number_of 32 (take (i + 1) values)) bytes (length bytes) (held * 32 + get_or values i 0) (count + 5)
joining-pulled values bytes i held count h below j =
    rw (number_of-more 32 values i h) (Waits-pulled 256 (number_of 32 (take i values)) bytes (length bytes) held count (get_or values i 0) 5 below j.waits)

-- no whole byte waits
pub IsJoining-held : (values bytes : List ℕ) (i held count : ℕ) → i < length values → get_or values i 0 < 32 → count + 5 < 8
    → IsJoining (number_of 32 (take i values)) bytes i held count
    → IsJoining (number_of 32 (take (i + 1) values)) bytes (i + 1) (held * 32 + get_or values i 0) (count + 5)
IsJoining-held values bytes i held count h below few j =
    let bits : 8 * length bytes + count ≡ 5 * i = j.bits in
    record {
      waits = joining-pulled values bytes i held count h below j;
      bits = omega arith;
      few = few;
      small = small-pulled held count (get_or values i 0) 5 j.small below;
    }

pub byte-lt : (values bytes : List ℕ) (i held count : ℕ) → get_or values i 0 < 32 → 8 ≤ count + 5
    → IsJoining (number_of 32 (take i values)) bytes i held count → (held * 32 + get_or values i 0) / 2 ^ (count + 5 - 8) < 256
byte-lt values bytes i held count below enough j =
    let e : 8 + (count + 5 - 8) ≡ count + 5 = omega arith in
    shr_below (held * 32 + get_or values i 0) 8 (count + 5 - 8) (rw e (small-pulled held count (get_or values i 0) 5 j.small below))

-- a whole byte is written
pub IsJoining-written : (values bytes more : List ℕ) (i held count : ℕ) → i < length values → get_or values i 0 < 32 → 8 ≤ count + 5
    → more ≡ bytes ++ (held * 32 + get_or values i 0) / 2 ^ (count + 5 - 8) ∷ []
    → IsJoining (number_of 32 (take i values)) bytes i held count
    → IsJoining (number_of 32 (take (i + 1) values)) more (i + 1) ((held * 32 + get_or values i 0) % 2 ^ (count + 5 - 8)) (count + 5 - 8)
IsJoining-written values bytes more i held count h below enough is j =
    let digit : ℕ = (held * 32 + get_or values i 0) / 2 ^ (count + 5 - 8) in
    let bits : 8 * length bytes + count ≡ 5 * i = j.bits in
    let few : count < 8 = j.few in
    let e : count + 5 - 8 + 8 ≡ count + 5 = omega arith in
    let len : length (bytes ++ digit ∷ []) ≡ suc (length bytes) = length_push bytes digit ∙ omega arith in
    rw is record {
      waits = rw len (Waits-written 8 (number_of 32 (take (i + 1) values)) bytes (length bytes) (held * 32 + get_or values i 0) (count + 5 - 8)
          (rw e (joining-pulled values bytes i held count h below j)));
      bits = omega (arith, len);
      few = omega arith;
      small = mod_below (held * 32 + get_or values i 0) (2 ^ (count + 5 - 8)) (pow_pos (count + 5 - 8));
    }

pub IsJoining-done : (values bytes : List ℕ) (held count : ℕ) → IsJoining (number_of 32 values) bytes (length values) held count → bytes ≡ whole_bytes values
unfolding whole_bytes
IsJoining-done values bytes held count j =
    let bits : 8 * length bytes + count ≡ 5 * length values = j.bits in
    let few : count < 8 = j.few in
    let len : length bytes ≡ byte_count (length values) = omega arith in
    let rest : count ≡ leftover_count values = omega arith in
    j.waits.written ∙ ap (λ (n : ℕ). digits_of 256 n (number_of 32 values / 2 ^ count)) len
    ∙ ap (λ (k : ℕ). digits_of 256 (byte_count (length values)) (number_of 32 values / 2 ^ k)) rest
