-- The bodies of the stanzas with a tag, one stanza more at a time.
use Rattle.std.proofs.Common.{◌≡◌, ℕ, ◌+◌, ◌<◌, ◌≤◌, true, false, List, [], ◌∷◌, ◌++◌, length, get_or, take, drop, map, refl, sym, ap, ◌∙◌}
use Rattle.std.specs.Str.{bytes_eq}
use Rattle.std.proofs.lemmas.List.{map-append, map_push, append-nil, take_more, take_all, drop_more, drop_all}
use Rattle.std.proofs.lemmas.List.Elements.{filter-append}
use Rattle.age_format.specs.Stanza.{Stanza, stanza_of}
use Rattle.age_format.specs.declared.format.Stanza.{Stanza as Held}
use Rattle.kem_mail.specs.Mail.{bodies}

bodies-append : (tag : List ℕ) (xs ys : List Stanza) → bodies tag (xs ++ ys) ≡ bodies tag xs ++ bodies tag ys
bodies-append tag xs ys = ap (map (λ s. s.body)) (filter-append (λ s. bytes_eq s.tag tag) xs ys) ∙ map-append (λ s. s.body) _ _

bodies-hit : (tag : List ℕ) (s : Stanza) (ss : List Stanza) → bytes_eq s.tag tag ≡ true → bodies tag (s ∷ ss) ≡ s.body ∷ bodies tag ss
bodies-hit tag s ss e = rw e refl

bodies-miss : (tag : List ℕ) (s : Stanza) (ss : List Stanza) → bytes_eq s.tag tag ≡ false → bodies tag (s ∷ ss) ≡ bodies tag ss
bodies-miss tag s ss e = rw e refl

-- ---- up to a place

views_up_to : (xs : List Held) (i : ℕ) (x : Held) → i < length xs → x ≡ get_or xs i x → map stanza_of (take (i + 1) xs) ≡ map stanza_of (take i xs) ++ stanza_of x ∷ []
views_up_to xs i x lt is =
    ap (map stanza_of) (take_more xs i x lt ∙ ap (λ (y : Held). take i xs ++ y ∷ []) (sym is)) ∙ map_push stanza_of (take i xs) x

pub bodies_up_to-hit : (tag : List ℕ) (xs : List Held) (i : ℕ) (x : Held) → i < length xs → x ≡ get_or xs i x → bytes_eq (stanza_of x).tag tag ≡ true
    → bodies tag (map stanza_of (take (i + 1) xs)) ≡ bodies tag (map stanza_of (take i xs)) ++ (stanza_of x).body ∷ []
bodies_up_to-hit tag xs i x lt is hit =
    ap (bodies tag) (views_up_to xs i x lt is)
    ∙ (bodies-append tag (map stanza_of (take i xs)) (stanza_of x ∷ [])
    ∙ ap (λ (t : List (List ℕ)). bodies tag (map stanza_of (take i xs)) ++ t) (bodies-hit tag (stanza_of x) [] hit))

pub bodies_up_to-miss : (tag : List ℕ) (xs : List Held) (i : ℕ) (x : Held) → i < length xs → x ≡ get_or xs i x → bytes_eq (stanza_of x).tag tag ≡ false
    → bodies tag (map stanza_of (take (i + 1) xs)) ≡ bodies tag (map stanza_of (take i xs))
bodies_up_to-miss tag xs i x lt is miss =
    ap (bodies tag) (views_up_to xs i x lt is)
    ∙ (bodies-append tag (map stanza_of (take i xs)) (stanza_of x ∷ [])
    ∙ (ap (λ (t : List (List ℕ)). bodies tag (map stanza_of (take i xs)) ++ t) (bodies-miss tag (stanza_of x) [] miss)
    ∙ append-nil (bodies tag (map stanza_of (take i xs)))))

pub bodies_up_to-end : (tag : List ℕ) (xs : List Held) (i : ℕ) → length xs ≤ i → bodies tag (map stanza_of (take i xs)) ≡ bodies tag (map stanza_of xs)
bodies_up_to-end tag xs i le = ap (λ (t : List Held). bodies tag (map stanza_of t)) (take_all i xs le)

-- ---- from a place on

views_from : (xs : List Held) (i : ℕ) (x : Held) → i < length xs → x ≡ get_or xs i x → map stanza_of (drop i xs) ≡ stanza_of x ∷ map stanza_of (drop (i + 1) xs)
views_from xs i x lt is = ap (map stanza_of) (drop_more xs i x lt ∙ ap (λ (y : Held). y ∷ drop (i + 1) xs) (sym is))

pub bodies_from-hit : (tag : List ℕ) (xs : List Held) (i : ℕ) (x : Held) → i < length xs → x ≡ get_or xs i x → bytes_eq (stanza_of x).tag tag ≡ true
    → bodies tag (map stanza_of (drop i xs)) ≡ (stanza_of x).body ∷ bodies tag (map stanza_of (drop (i + 1) xs))
bodies_from-hit tag xs i x lt is hit = ap (bodies tag) (views_from xs i x lt is) ∙ bodies-hit tag (stanza_of x) (map stanza_of (drop (i + 1) xs)) hit

pub bodies_from-miss : (tag : List ℕ) (xs : List Held) (i : ℕ) (x : Held) → i < length xs → x ≡ get_or xs i x → bytes_eq (stanza_of x).tag tag ≡ false
    → bodies tag (map stanza_of (drop i xs)) ≡ bodies tag (map stanza_of (drop (i + 1) xs))
bodies_from-miss tag xs i x lt is miss = ap (bodies tag) (views_from xs i x lt is) ∙ bodies-miss tag (stanza_of x) (map stanza_of (drop (i + 1) xs)) miss

pub bodies_from-end : (tag : List ℕ) (xs : List Held) (i : ℕ) → length xs ≤ i → bodies tag (map stanza_of (drop i xs)) ≡ []
bodies_from-end tag xs i le = ap (λ (t : List Held). bodies tag (map stanza_of t)) (drop_all i xs le)
