-- The run of characters at the front of a text, byte by byte.
use Rattle.std.proofs.Common.{◌≡◌, ◌≢◌, ℕ, ◌+◌, ◌<◌, Bool, true, false, List, [], ◌∷◌, ◌++◌, length, take, drop, get_or, refl, sym, ap, ◌∙◌, append_assoc}
use Rattle.std.specs.Prelude.{◌==◌, ◌&&◌, ◌||◌}
use Rattle.std.proofs.Math.Bool.{and-false}
use Rattle.std.proofs.lemmas.Bool.{ne_eqb}
use Rattle.std.proofs.lemmas.List.{append-nil, take_more, drop_more}
use Rattle.age_legacy.specs.Legacy.{is_character, begins_character, run_of}

-- whether a byte is of the run, by what follows it
abbrev pub runs_on : ℕ → List ℕ → Bool
runs_on b bs = is_character b || (b == 10 && begins_character bs)

run-on : (b : ℕ) (bs : List ℕ) → runs_on b bs ≡ true → run_of (b ∷ bs) ≡ b ∷ run_of bs
unfolding run_of
run-on b bs e = rw e refl

run-stop : (b : ℕ) (bs : List ℕ) → runs_on b bs ≡ false → run_of (b ∷ bs) ≡ []
unfolding run_of
run-stop b bs e = rw e refl

run-nil : run_of [] ≡ []
unfolding run_of
run-nil = refl

-- a character is of the run, and a line feed before one
pub by_character : (b : ℕ) (bs : List ℕ) → is_character b ≡ true → runs_on b bs ≡ true
by_character b bs e = rw e refl

pub by_feed : (b : ℕ) (bs : List ℕ) → is_character b ≡ false → b ≡ 10 → begins_character bs ≡ true → runs_on b bs ≡ true
by_feed b bs e feed next = rw (e, feed, next) refl

pub off_feed : (b : ℕ) (bs : List ℕ) → is_character b ≡ false → b ≢ 10 → runs_on b bs ≡ false
off_feed b bs e other = rw (e, ne_eqb b 10 other) refl

pub off_next : (b : ℕ) (bs : List ℕ) → is_character b ≡ false → begins_character bs ≡ false → runs_on b bs ≡ false
off_next b bs e next = rw (e, next) (and-false (b == 10))

-- so many bytes of the text are of the run
abbrev pub RunsTo : List ℕ → ℕ → Type 0
RunsTo text i = run_of text ≡ take i text ++ run_of (drop i text)

pub runs_more : (text : List ℕ) (i : ℕ) → i < length text → runs_on (get_or text i 0) (drop (i + 1) text) ≡ true → RunsTo text i → RunsTo text (i + 1)
runs_more text i lt on h =
    let here = ap run_of (drop_more text i 0 lt) ∙ run-on (get_or text i 0) (drop (i + 1) text) on in
    let moved = append_assoc (take i text) (get_or text i 0 ∷ []) (run_of (drop (i + 1) text)) in
    h ∙ ap (λ (t : List ℕ). take i text ++ t) here ∙ sym moved ∙ ap (λ (t : List ℕ). t ++ run_of (drop (i + 1) text)) (sym (take_more text i 0 lt))

pub runs_no_more : (text : List ℕ) (i : ℕ) → i < length text → runs_on (get_or text i 0) (drop (i + 1) text) ≡ false → RunsTo text i → take i text ≡ run_of text
runs_no_more text i lt off h =
    let here = ap run_of (drop_more text i 0 lt) ∙ run-stop (get_or text i 0) (drop (i + 1) text) off in
    sym (h ∙ ap (λ (t : List ℕ). take i text ++ t) here ∙ append-nil (take i text))

pub runs_through : (text : List ℕ) (i : ℕ) → drop i text ≡ [] → RunsTo text i → take i text ≡ run_of text
runs_through text i none h = sym (h ∙ ap (λ (t : List ℕ). take i text ++ run_of t) none ∙ ap (λ (t : List ℕ). take i text ++ t) run-nil ∙ append-nil (take i text))
