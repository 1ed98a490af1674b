-- GCM-AE and GCM-AD undo each other.
use Rattle.std.proofs.Common.{◌≡◌, ◌↔◌, ℕ, zero, suc, ◌+◌, ◌-◌, ◌*◌, ◌/◌, ◌^◌, ◌<◌, ◌≤◌, Bool, true, false, List, [], ◌++◌, length, take, drop, replicate, Option, Some, None, refl, sym, ap, ◌∙◌, arith, inl, inr, length-append, length-drop}
use Rattle.std.specs.Prelude.{nat_le, ◌&&◌}
use Rattle.std.specs.Bool.{Decides}
use Rattle.std.specs.Int.{div_ceil}
use Rattle.std.specs.Str.{bytes_eq}
use Rattle.std.proofs.lemmas.Bool.{false≢true, and_from, and_parts, cases_Bool, cases_lt, cond-false, cond-true, le-leb, leb-true, false_from_ne_true}
use Rattle.std.proofs.lemmas.Bool.Decides.{Decides-and, same_from_decides}
use Rattle.std.proofs.lemmas.List.{append-nil, drop_all, drop_at, length-take, nil_from_length, take-append-drop, take-append-le, take_all, take_at}
use Rattle.std.proofs.lemmas.Slice.Eq.{bytes_eq-Decides}
use Rattle.gcm_core.proofs.Stream.{gctr_blocks-next, gctr_blocks-none, length-xor_bytes, xor_bytes-twice}
use Rattle.gcm_core.specs.Aes.{add_round_key, aes, cipher, key_expansion, schedule, xor_bytes}
use Rattle.gcm_core.specs.Gcm.{authenticated, ciphertext_of, fits_limits, gcm_ad, gcm_ae, gctr, gctr_blocks, inc32, is_authentic, j0, sealed_tag, tag_of}
use Rattle.gcm_core.specs.Ghash.{block_of, ghash, polynomial_of, polynomials, weighted_sum}

-- ---- the block cipher

length-cipher : (w block : List ℕ) → length (cipher w block) ≡ 16
unfolding cipher add_round_key
length-cipher w block = refl

pub length-aes : (key block : List ℕ) → length (aes key block) ≡ 16
unfolding aes
length-aes key block = length-cipher (key_expansion key) block

-- the cipher under a key schedule that was made of a key
pub cipher-aes : (key w : List ℕ) → w ≡ key_expansion key → cipher w ≡ aes key
unfolding aes
cipher-aes key w e = ap cipher e

schedule-starts : (nk n : ℕ) (key : List ℕ) → take (length key) (schedule nk key n) ≡ key
unfolding schedule
schedule-starts nk zero key = take_all (length key) key (omega arith)
schedule-starts nk (suc n) key =
    let w : List ℕ = schedule nk key n in
    let front : take (length key) w ≡ key = schedule-starts nk n key in
    let fits : length key ≤ length w = omega (arith, ap length front, length-take (length key) w) in
    take-append-le (length key) w _ fits ∙ front

-- the key schedule begins with the key
pub take-key_expansion : (key : List ℕ) → take (length key) (key_expansion key) ≡ key
unfolding key_expansion
take-key_expansion key = schedule-starts (length key / 4) (3 * (length key / 4) + 28) key

-- ---- GCTR

-- over nothing
gctr_blocks-nil : (ciph : List ℕ → List ℕ) (n : ℕ) (cb : List ℕ) → gctr_blocks ciph n cb [] ≡ []
gctr_blocks-nil ciph zero cb = gctr_blocks-none ciph cb []
gctr_blocks-nil ciph (suc n) cb = gctr_blocks-next ciph n cb [] ∙ gctr_blocks-nil ciph n (inc32 cb)

-- over a block and the rest, where a short block has no rest
gctr_blocks-parts : (ciph : List ℕ → List ℕ) (n : ℕ) (cb b r : List ℕ) → length b ≤ 16 → (length b < 16 → r ≡ [])
    → gctr_blocks ciph (suc n) cb (b ++ r) ≡ xor_bytes b (ciph cb) ++ gctr_blocks ciph n (inc32 cb) r
gctr_blocks-parts ciph n cb b r h short = elim (cases_lt (length b) 16) [
  | inl lt ↦
      let none : r ≡ [] = short lt in
      let all : b ++ r ≡ b = ap (λ (z : List ℕ). b ++ z) none ∙ append-nil b in
      ap (gctr_blocks ciph (suc n) cb) all ∙ gctr_blocks-next ciph n cb b
      ∙ ap (λ (z : List ℕ). xor_bytes z (ciph cb) ++ gctr_blocks ciph n (inc32 cb) (drop 16 b)) (take_all 16 b h)
      ∙ ap (λ (z : List ℕ). xor_bytes b (ciph cb) ++ gctr_blocks ciph n (inc32 cb) z) (drop_all 16 b h ∙ sym none)
  | inr ge ↦
      let len : length b ≡ 16 = omega arith in
      gctr_blocks-next ciph n cb (b ++ r) ∙ ap (λ (z : List ℕ). xor_bytes z (ciph cb) ++ gctr_blocks ciph n (inc32 cb) (drop 16 (b ++ r))) (take_at b r 16 len)
      ∙ ap (λ (z : List ℕ). xor_bytes b (ciph cb) ++ gctr_blocks ciph n (inc32 cb) z) (drop_at b r 16 len)
]

pub length-gctr_blocks : (ciph : List ℕ → List ℕ) (n : ℕ) (cb x : List ℕ) → ((b : List ℕ) → length (ciph b) ≡ 16) → length x ≤ 16 * n → length (gctr_blocks ciph n cb x) ≡ length x
length-gctr_blocks ciph zero cb x whole h = ap length (gctr_blocks-none ciph cb x) ∙ omega arith
length-gctr_blocks ciph (suc n) cb x whole h =
    let part : length (take 16 x) ≤ length (ciph cb) = omega (arith, length-take 16 x, whole cb) in
    ap length (gctr_blocks-next ciph n cb x) ∙ length-append (xor_bytes (take 16 x) (ciph cb)) (gctr_blocks ciph n (inc32 cb) (drop 16 x))
    ∙ omega (arith, length-xor_bytes (take 16 x) (ciph cb) part, length-gctr_blocks ciph n (inc32 cb) (drop 16 x) whole (omega (arith, length-drop 16 x)), length-drop 16 x, length-take 16 x)

gctr_blocks-twice : (ciph : List ℕ → List ℕ) (n : ℕ) (cb x : List ℕ) → ((b : List ℕ) → length (ciph b) ≡ 16) → length x ≤ 16 * n
    → gctr_blocks ciph n cb (gctr_blocks ciph n cb x) ≡ x
gctr_blocks-twice ciph zero cb x whole h = gctr_blocks-none ciph cb _ ∙ sym (nil_from_length x (omega arith))
gctr_blocks-twice ciph (suc n) cb x whole h =
    let part : length (take 16 x) ≤ length (ciph cb) = omega (arith, length-take 16 x, whole cb) in
    let b : List ℕ = xor_bytes (take 16 x) (ciph cb) in
    let r : List ℕ = gctr_blocks ciph n (inc32 cb) (drop 16 x) in
    let lb : length b ≡ length (take 16 x) = length-xor_bytes (take 16 x) (ciph cb) part in
    let short : length b < 16 → r ≡ [] = λ l.
    ap (gctr_blocks ciph n (inc32 cb)) (drop_all 16 x (omega (arith, length-take 16 x))) ∙ gctr_blocks-nil ciph n (inc32 cb) in
    ap (gctr_blocks ciph (suc n) cb) (gctr_blocks-next ciph n cb x) ∙ gctr_blocks-parts ciph n cb b r (omega (arith, length-take 16 x)) short
    ∙ ap (λ (z : List ℕ). z ++ gctr_blocks ciph n (inc32 cb) r) (xor_bytes-twice (take 16 x) (ciph cb) part)
    ∙ ap (λ (z : List ℕ). take 16 x ++ z) (gctr_blocks-twice ciph n (inc32 cb) (drop 16 x) whole (omega (arith, length-drop 16 x)))
    ∙ take-append-drop 16 x

pub length-gctr : (ciph : List ℕ → List ℕ) (icb x : List ℕ) → ((b : List ℕ) → length (ciph b) ≡ 16) → length (gctr ciph icb x) ≡ length x
unfolding gctr
length-gctr ciph icb x whole = length-gctr_blocks ciph (div_ceil (length x) 16) icb x whole (omega arith)

pub gctr-twice : (ciph : List ℕ → List ℕ) (icb x : List ℕ) → ((b : List ℕ) → length (ciph b) ≡ 16) → gctr ciph icb (gctr ciph icb x) ≡ x
unfolding gctr
gctr-twice ciph icb x whole =
    let len : length (gctr_blocks ciph (div_ceil (length x) 16) icb x) ≡ length x = length-gctr ciph icb x whole in
    ap (λ (k : ℕ). gctr_blocks ciph (div_ceil k 16) icb (gctr_blocks ciph (div_ceil (length x) 16) icb x)) len
    ∙ gctr_blocks-twice ciph (div_ceil (length x) 16) icb x whole (omega arith)

length-block_of : (p : ℕ) → length (block_of p) ≡ 16
unfolding block_of
length-block_of p = refl

pub length-tag_of : (ciph : List ℕ → List ℕ) (nonce aad c : List ℕ) → ((b : List ℕ) → length (ciph b) ≡ 16) → length (tag_of ciph nonce aad c) ≡ 16
unfolding tag_of ghash
length-tag_of ciph nonce aad c whole = length-gctr ciph (j0 nonce) (ghash (ciph (replicate 16 0)) (authenticated aad c)) whole ∙ length-block_of _

-- ---- the limits

pub fits_limits-Decides : (aad text : List ℕ) → Decides (fits_limits aad text) ((length text ≤ 2 ^ 36 - 32) × (length aad ≤ 2 ^ 60))
fits_limits-Decides aad text =
    Decides-and (nat_le (length text) (2 ^ 36 - 32)) (nat_le (length aad) (2 ^ 60)) (leb-true (length text) (2 ^ 36 - 32), le-leb (length text) (2 ^ 36 - 32))
    (leb-true (length aad) (2 ^ 60), le-leb (length aad) (2 ^ 60))

-- ---- sealing

pub gcm_ae-within : (ciph : List ℕ → List ℕ) (nonce aad text : List ℕ) → fits_limits aad text ≡ true
    → gcm_ae ciph nonce aad text ≡ Some (gctr ciph (inc32 (j0 nonce)) text ++ tag_of ciph nonce aad (gctr ciph (inc32 (j0 nonce)) text))
unfolding gcm_ae
gcm_ae-within ciph nonce aad text h = cond-true (fits_limits aad text) _ None h

pub gcm_ae-past : (ciph : List ℕ → List ℕ) (nonce aad text : List ℕ) → fits_limits aad text ≡ false → gcm_ae ciph nonce aad text ≡ None
unfolding gcm_ae
gcm_ae-past ciph nonce aad text h = cond-false (fits_limits aad text) _ None h

-- what was sealed, and that it kept the limits
gcm_ae-sealed : (ciph : List ℕ → List ℕ) (nonce aad text sealed : List ℕ) → gcm_ae ciph nonce aad text ≡ Some sealed
    → (fits_limits aad text ≡ true) × (sealed ≡ gctr ciph (inc32 (j0 nonce)) text ++ tag_of ciph nonce aad (gctr ciph (inc32 (j0 nonce)) text))
gcm_ae-sealed ciph nonce aad text sealed e = elim (cases_Bool (fits_limits aad text)) [
  | inl holds ↦ (holds, let s = gcm_ae-within ciph nonce aad text holds in cc)
  | inr fails ↦ absurd (let s = gcm_ae-past ciph nonce aad text fails in cc)
]

pub length_sealed : (ciph : List ℕ → List ℕ) (nonce aad text sealed : List ℕ) → ((b : List ℕ) → length (ciph b) ≡ 16) → gcm_ae ciph nonce aad text ≡ Some sealed
    → length sealed ≡ length text + 16
length_sealed ciph nonce aad text sealed whole e =
    let icb : List ℕ = inc32 (j0 nonce) in
    let c : List ℕ = gctr ciph icb text in
    ap length (gcm_ae-sealed ciph nonce aad text sealed e).1 ∙ length-append c (tag_of ciph nonce aad c)
    ∙ omega (arith, length-gctr ciph icb text whole, length-tag_of ciph nonce aad c whole)

-- ---- opening

pub gcm_ad-authentic : (ciph : List ℕ → List ℕ) (nonce aad sealed : List ℕ) → is_authentic ciph nonce aad sealed ≡ true
    → gcm_ad ciph nonce aad sealed ≡ Some (gctr ciph (inc32 (j0 nonce)) (ciphertext_of sealed))
unfolding gcm_ad
gcm_ad-authentic ciph nonce aad sealed h = cond-true (is_authentic ciph nonce aad sealed) _ None h

pub gcm_ad-other : (ciph : List ℕ → List ℕ) (nonce aad sealed : List ℕ) → is_authentic ciph nonce aad sealed ≡ false → gcm_ad ciph nonce aad sealed ≡ None
unfolding gcm_ad
gcm_ad-other ciph nonce aad sealed h = cond-false (is_authentic ciph nonce aad sealed) _ None h

gcm_ad-opened : (ciph : List ℕ → List ℕ) (nonce aad sealed text : List ℕ) → gcm_ad ciph nonce aad sealed ≡ Some text
    → (is_authentic ciph nonce aad sealed ≡ true) × (text ≡ gctr ciph (inc32 (j0 nonce)) (ciphertext_of sealed))
gcm_ad-opened ciph nonce aad sealed text e = elim (cases_Bool (is_authentic ciph nonce aad sealed)) [
  | inl holds ↦ (holds, let s = gcm_ad-authentic ciph nonce aad sealed holds in cc)
  | inr fails ↦ absurd (let s = gcm_ad-other ciph nonce aad sealed fails in cc)
]

-- a ciphertext and a tag of 16 bytes
pub ciphertext_of-joined : (c t : List ℕ) → length t ≡ 16 → ciphertext_of (c ++ t) ≡ c
ciphertext_of-joined c t len = take_at c t (length (c ++ t) - 16) (omega (arith, length-append c t))

sealed_tag-joined : (c t : List ℕ) → length t ≡ 16 → sealed_tag (c ++ t) ≡ t
sealed_tag-joined c t len = drop_at c t (length (c ++ t) - 16) (omega (arith, length-append c t))

pub is_authentic-Decides : (ciph : List ℕ → List ℕ) (nonce aad c t : List ℕ) → length t ≡ 16
    → Decides (is_authentic ciph nonce aad (c ++ t)) ((fits_limits aad c ≡ true) × (t ≡ tag_of ciph nonce aad c))
is_authentic-Decides ciph nonce aad c t len =
    let s : List ℕ = c ++ t in
    let ec : ciphertext_of s ≡ c = ciphertext_of-joined c t len in
    let et : sealed_tag s ≡ t = sealed_tag-joined c t len in
    let room : nat_le 16 (length s) ≡ true = le-leb 16 (length s) (omega (arith, length-append c t)) in
    let d = bytes_eq-Decides (sealed_tag s) (tag_of ciph nonce aad (ciphertext_of s)) in (
      λ h.
          let parts = and_parts (nat_le 16 (length s) && fits_limits aad (ciphertext_of s)) (bytes_eq (sealed_tag s) (tag_of ciph nonce aad (ciphertext_of s))) h in
          let fits = (and_parts (nat_le 16 (length s)) (fits_limits aad (ciphertext_of s)) parts.0).1 in
          (ap (fits_limits aad) (sym ec) ∙ fits, sym et ∙ d.0 parts.1 ∙ ap (tag_of ciph nonce aad) ec),
      λ h.
          and_from (nat_le 16 (length s) && fits_limits aad (ciphertext_of s)) (bytes_eq (sealed_tag s) (tag_of ciph nonce aad (ciphertext_of s)))
          (and_from (nat_le 16 (length s)) (fits_limits aad (ciphertext_of s)) room (ap (fits_limits aad) ec ∙ h.0))
          (d.1 (et ∙ h.1 ∙ ap (tag_of ciph nonce aad) (sym ec))),
    )

-- the limits see lengths alone
fits_limits-length : (aad a b : List ℕ) → length a ≡ length b → fits_limits aad a ≡ fits_limits aad b
fits_limits-length aad a b e = ap (λ (k : ℕ). nat_le k (2 ^ 36 - 32) && nat_le (length aad) (2 ^ 60)) e

-- ---- both ways

seals_what_opens : (ciph : List ℕ → List ℕ) (nonce aad text sealed : List ℕ) → ((b : List ℕ) → length (ciph b) ≡ 16)
    → gcm_ad ciph nonce aad sealed ≡ Some text → gcm_ae ciph nonce aad text ≡ Some sealed
seals_what_opens ciph nonce aad text sealed whole e =
    let icb : List ℕ = inc32 (j0 nonce) in
    let c : List ℕ = ciphertext_of sealed in
    let o = gcm_ad-opened ciph nonce aad sealed text e in
    let parts = and_parts (nat_le 16 (length sealed) && fits_limits aad c) (bytes_eq (sealed_tag sealed) (tag_of ciph nonce aad c)) o.0 in
    let fits : fits_limits aad c ≡ true = (and_parts (nat_le 16 (length sealed)) (fits_limits aad c) parts.0).1 in
    let tag : sealed_tag sealed ≡ tag_of ciph nonce aad c = (bytes_eq-Decides (sealed_tag sealed) (tag_of ciph nonce aad c)).0 parts.1 in
    let len : length text ≡ length c = ap length o.1 ∙ length-gctr ciph icb c whole in
    let back : gctr ciph icb text ≡ c = ap (gctr ciph icb) o.1 ∙ gctr-twice ciph icb c whole in
    gcm_ae-within ciph nonce aad text (fits_limits-length aad text c len ∙ fits) ∙ ap (λ (z : List ℕ). Some (z ++ tag_of ciph nonce aad z)) back
    ∙ ap (λ (z : List ℕ). Some (c ++ z)) (sym tag) ∙ ap Some (take-append-drop (length sealed - 16) sealed)

opens_what_seals : (ciph : List ℕ → List ℕ) (nonce aad text sealed : List ℕ) → ((b : List ℕ) → length (ciph b) ≡ 16)
    → gcm_ae ciph nonce aad text ≡ Some sealed → gcm_ad ciph nonce aad sealed ≡ Some text
opens_what_seals ciph nonce aad text sealed whole e =
    let icb : List ℕ = inc32 (j0 nonce) in
    let c : List ℕ = gctr ciph icb text in
    let t : List ℕ = tag_of ciph nonce aad c in
    let s = gcm_ae-sealed ciph nonce aad text sealed e in
    let lt : length t ≡ 16 = length-tag_of ciph nonce aad c whole in
    let fits : fits_limits aad c ≡ true = fits_limits-length aad c text (length-gctr ciph icb text whole) ∙ s.0 in
    ap (gcm_ad ciph nonce aad) s.1 ∙ gcm_ad-authentic ciph nonce aad (c ++ t) ((is_authentic-Decides ciph nonce aad c t lt).1 (fits, refl))
    ∙ ap (λ (z : List ℕ). Some (gctr ciph icb z)) (ciphertext_of-joined c t lt) ∙ ap Some (gctr-twice ciph icb text whole)

pub opens-seals : (ciph : List ℕ → List ℕ) (nonce aad text sealed : List ℕ) → ((b : List ℕ) → length (ciph b) ≡ 16)
    → (gcm_ad ciph nonce aad sealed ≡ Some text) ↔ (gcm_ae ciph nonce aad text ≡ Some sealed)
opens-seals ciph nonce aad text sealed whole = (seals_what_opens ciph nonce aad text sealed whole, opens_what_seals ciph nonce aad text sealed whole)

-- ---- for the calls

-- a test of the limits at run time
pub fits_limits-tested : (aad text : List ℕ) (r v : Bool) → Decides r ((length text ≤ 2 ^ 36 - 32) × (length aad ≤ 2 ^ 60)) → r ≡ v → fits_limits aad text ≡ v
fits_limits-tested aad text r v h e = same_from_decides (fits_limits aad text) r (fits_limits-Decides aad text) h ∙ e

-- a value is none only where there is none
pub some_or_none : (o : Option (List ℕ)) (x : List ℕ) → o ≡ Some x → (false ≡ true) ↔ (o ≡ None)
some_or_none o x e = (λ f. absurd (false≢true f), λ n. cc)

pub none_and_none : (o : Option (List ℕ)) → o ≡ None → (true ≡ true) ↔ (o ≡ None)
none_and_none o e = (λ _. e, λ _. refl)

-- the sealed text, from its parts
pub gcm_ae-made : (ciph : List ℕ → List ℕ) (nonce aad text icb c t : List ℕ) → fits_limits aad text ≡ true → icb ≡ inc32 (j0 nonce)
    → c ≡ gctr ciph icb text → t ≡ tag_of ciph nonce aad c → gcm_ae ciph nonce aad text ≡ Some (c ++ t)
gcm_ae-made ciph nonce aad text icb c t fits ei ec et =
    let whole : c ≡ gctr ciph (inc32 (j0 nonce)) text = ec ∙ ap (λ (z : List ℕ). gctr ciph z text) ei in
    gcm_ae-within ciph nonce aad text fits ∙ ap (λ (z : List ℕ). Some (z ++ tag_of ciph nonce aad z)) (sym whole) ∙ ap (λ (z : List ℕ). Some (c ++ z)) (sym et)

-- the opened text, from its parts
pub gcm_ad-made : (ciph : List ℕ → List ℕ) (nonce aad c t icb text : List ℕ) → length t ≡ 16 → fits_limits aad c ≡ true → t ≡ tag_of ciph nonce aad c
    → icb ≡ inc32 (j0 nonce) → text ≡ gctr ciph icb c → gcm_ad ciph nonce aad (c ++ t) ≡ Some text
gcm_ad-made ciph nonce aad c t icb text len fits et ei ex =
    gcm_ad-authentic ciph nonce aad (c ++ t) ((is_authentic-Decides ciph nonce aad c t len).1 (fits, et))
    ∙ ap (λ (z : List ℕ). Some (gctr ciph (inc32 (j0 nonce)) z)) (ciphertext_of-joined c t len) ∙ ap (λ (z : List ℕ). Some (gctr ciph z c)) (sym ei) ∙ ap Some (sym ex)

-- nothing is opened past the limits, or under another tag
pub gcm_ad-refused : (ciph : List ℕ → List ℕ) (nonce aad c t : List ℕ) → length t ≡ 16 → ((fits_limits aad c ≡ true) × (t ≡ tag_of ciph nonce aad c) → ⊥)
    → gcm_ad ciph nonce aad (c ++ t) ≡ None
gcm_ad-refused ciph nonce aad c t len h =
    gcm_ad-other ciph nonce aad (c ++ t)
    (false_from_ne_true (is_authentic ciph nonce aad (c ++ t)) (λ e. h ((is_authentic-Decides ciph nonce aad c t len).0 e)))

-- a key schedule that was made of a key of 32 bytes
pub take-expanded : (key w : List ℕ) → w ≡ key_expansion key → take (length key) w ≡ key
take-expanded key w e = ap (take (length key)) e ∙ take-key_expansion key

-- the tag, from the hash of all that it authenticates
pub tag_of-made : (ciph : List ℕ → List ℕ) (h : ℕ) (nonce aad c hash tag : List ℕ) → h ≡ polynomial_of (ciph (replicate 16 0))
    → hash ≡ block_of (weighted_sum h (polynomials (length (authenticated aad c) / 16) (authenticated aad c))) → tag ≡ gctr ciph (j0 nonce) hash → tag ≡ tag_of ciph nonce aad c
unfolding tag_of ghash
tag_of-made ciph h nonce aad c hash tag eh eb et =
    let x : List ℕ = authenticated aad c in
    et ∙ ap (gctr ciph (j0 nonce)) (eb ∙ ap (λ (k : ℕ). block_of (weighted_sum k (polynomials (length x / 16) x))) eh)
