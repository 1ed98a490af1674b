-- Lists that are changed place by place.
use Rattle.std.proofs.Common.{◌≡◌, ℕ, ◌+◌, ◌-◌, ◌<◌, ◌≤◌, List, [], ◌∷◌, ◌++◌, length, take, drop, get_or, set, map, replicate, refl, sym, ap, ◌∙◌, arith}
use Rattle.std.specs.Char.{to_ascii_lowercase}
use Rattle.std.proofs.lemmas.List.{take_more_set, map_more, take_all, drop-set-lt, get_or-drop, drop-drop, drop-replicate, length-set, take-append-drop}
use Rattle.std.proofs.lemmas.Grind.{drop_more_same}
use Rattle.bech32_long.specs.private.Lowered.{IsMapped, IsLoweredUpTo}

pub IsMapped-none : (f : ℕ → ℕ) (before : List ℕ) → IsMapped f before before 0
IsMapped-none f before = record { front = refl; rest = refl }

pub IsMapped-next : (f : ℕ → ℕ) (before now : List ℕ) (i : ℕ) → i < length before → i < length now → IsMapped f before now i → get_or now i 0 ≡ get_or before i 0
IsMapped-next f before now i h k m =
    let at : i + 0 ≡ i = omega arith in
    ap (λ (n : ℕ). get_or now n 0) (sym at) ∙ sym (get_or-drop i now 0 0) ∙ ap (λ (xs : List ℕ). get_or xs 0 0) m.rest ∙ get_or-drop i before 0 0 ∙ ap (λ (n : ℕ). get_or before n 0) at

pub IsMapped-more : (f : ℕ → ℕ) (before now : List ℕ) (i : ℕ) → i < length before → i < length now → IsMapped f before now i
    → IsMapped f before (set now i (f (get_or now i 0))) (i + 1)
IsMapped-more f before now i h k m =
    let same : get_or now i 0 ≡ get_or before i 0 = IsMapped-next f before now i h k m in
    record {
      front = take_more_set now i (f (get_or now i 0)) k ∙ ap (λ (xs : List ℕ). xs ++ f (get_or now i 0) ∷ []) m.front
          ∙ ap (λ (x : ℕ). map f (take i before) ++ f x ∷ []) same ∙ sym (map_more f before i 0 h);
      rest = drop-set-lt (i + 1) now i (f (get_or now i 0)) (omega arith) ∙ drop_more_same now before i m.rest;
    }

pub IsMapped-all : (f : ℕ → ℕ) (before now : List ℕ) (i : ℕ) → length before ≤ i → length now ≤ i → IsMapped f before now i → now ≡ map f before
IsMapped-all f before now i h k m = sym (take_all i now k) ∙ m.front ∙ ap (map f) (take_all i before h)

pub IsLoweredUpTo-none : (text : List ℕ) → IsLoweredUpTo text (replicate 83 0) 0
IsLoweredUpTo-none text = record { front = refl; rest = refl; len = refl }

pub IsLoweredUpTo-more : (text bytes : List ℕ) (i : ℕ) → i < length text → i < 83 → IsLoweredUpTo text bytes i
    → IsLoweredUpTo text (set bytes i (to_ascii_lowercase (get_or text i 0))) (i + 1)
IsLoweredUpTo-more text bytes i h k m =
    let len : length bytes ≡ 83 = m.len in
    let low : ℕ = to_ascii_lowercase (get_or text i 0) in
    let left : 83 - i - 1 ≡ 83 - (i + 1) = omega arith in
    record {
      front = take_more_set bytes i low (omega arith) ∙ ap (λ (xs : List ℕ). xs ++ low ∷ []) m.front ∙ sym (map_more to_ascii_lowercase text i 0 h);
      rest = drop-set-lt (i + 1) bytes i low (omega arith) ∙ sym (drop-drop 1 i bytes) ∙ ap (drop 1) m.rest ∙ drop-replicate 1 (83 - i) 0
          ∙ ap (λ (n : ℕ). replicate n 0) left;
      len = length-set bytes i low ∙ len;
    }

pub IsLoweredUpTo-all : (text bytes : List ℕ) (i : ℕ) → i ≡ length text → IsLoweredUpTo text bytes i
    → bytes ≡ map to_ascii_lowercase text ++ replicate (83 - length text) 0
IsLoweredUpTo-all text bytes i e m =
    sym (take-append-drop i bytes) ∙ ap (λ (xs : List ℕ). xs ++ drop i bytes) (m.front ∙ ap (map to_ascii_lowercase) (take_all i text (omega arith)))
    ∙ ap (λ (xs : List ℕ). map to_ascii_lowercase text ++ xs) (m.rest ∙ ap (λ (n : ℕ). replicate (83 - n) 0) e)
