-- The inputs of `seal`: three lines, and the lines of the messages.
use Rattle.std.proofs.Common.{◌≡◌, ◌≢◌, ℕ, zero, suc, ◌+◌, ◌*◌, ◌-◌, ◌%◌, ◌<◌, ◌≤◌, List, [], ◌∷◌, ◌++◌, length, Option, Err, inl, inr, refl, sym, ap, subst, ◌∙◌, arith, append_assoc}
use Rattle.std.proofs.lemmas.List.{append-nil, length-append, length_push}
use Rattle.hex.proofs.HexLemmas.{decode_of-ok}
use Rattle.kem_mail.specs.Taken.{Lost}
use Rattle.mail_commands.specs.Input.{Begins, IsLine, IsLineText, IsMessageLines, IsSealInput, IsSealText, StopsAt}
use Rattle.mail_commands.specs.Taken.{InputTakes, OpenTakes}
use Rattle.mail_commands.specs.private.InputParts.{InputTaken, OpenTaken, behind}
use Rattle.mail_commands.specs.private.SealParts.{Then, Tail, FromSource, FromInfo, HoldsFromInfo}
use Rattle.kem_mail.specs.declared.error.MailError.TheVariants.{NoMemory, ReadFault}
use Rattle.mail_commands.specs.declared.error.RunError.{RunError}
use Rattle.mail_commands.specs.declared.error.RunError.TheVariants.{Place, Ended, InvalidKey, Mail}
use Rattle.mail_commands.proofs.Inputs.{Digits-zeros, Lost_then, Lost_weaker, IsLineText-digits, length-zeros, one_line_end, one_line_value, some_line, zeros}
use Rattle.mail_commands.proofs.Joins.{Begins-whole, Reaches-begins, StandsOpen, some_both, stands_same, stands_there_some, takes_first, takes_second, takes_there}

-- ---- the lines of the messages

-- a line of a message
abbrev pub IsMessageText : List ℕ → Type 0
IsMessageText text = IsLineText 0 65536 text

pub no_messages : (most : ℕ) → Tail most []
no_messages most = ([], (refl, omega arith))

line_then : (most : ℕ) (text : List ℕ) → Then IsMessageText (Tail most) text → Tail (suc most) text
line_then most text (line, rest, whole, (message, is), (messages, (lines, few))) = (message ∷ messages, ((line, rest, whole, is, lines), omega (arith, few)))

then_line : (most : ℕ) (text : List ℕ) → text ≢ [] → Tail (suc most) text → Then IsMessageText (Tail most) text
then_line most text some ([], (lines, few)) = absurd (some lines)
then_line most text some (message ∷ messages, ((line, rest, whole, is, lines), few)) = (line, rest, whole, (message, is), (messages, (lines, omega (arith, few))))

-- no line begins another
lines_alone : (a b more rest : List ℕ) → IsMessageText a → IsMessageText b → a ++ more ≡ b ++ rest → (a ≡ b) × (more ≡ rest)
lines_alone = one_line_end 0 65536

-- a line was refused
pub tail_first : (most : ℕ) (e : RunError) (bytes : List ℕ) → (e ≡ Ended → bytes ≢ []) → InputTakes IsMessageText e bytes → OpenTakes (Tail (suc most)) e bytes
tail_first most e bytes some t =
    takes_there (Then IsMessageText (Tail most)) (Tail (suc most)) (line_then most) (then_line most) e bytes (λ is q. then_line most bytes (some is) q) (takes_first IsMessageText (Tail most) lines_alone [] (no_messages most) e bytes t)

line_some : (line rest : List ℕ) → IsMessageText line → line ++ rest ≢ []
line_some line rest (message, is) e =
    let long = length-append line rest in
    let line_long = ap length is.whole in
    let none = ap length e in
    omega (arith, long, line_long, none, length_push is.digits 10)

-- what is behind a line was refused
tail_second : (most : ℕ) (e : RunError) (line bytes : List ℕ) → IsMessageText line → OpenTakes (Tail most) e bytes → OpenTakes (Tail (suc most)) (behind (length line) e) (line ++ bytes)
tail_second most e line bytes is t =
    takes_there (Then IsMessageText (Tail most)) (Tail (suc most)) (line_then most) (then_line most) (behind (length line) e) (line ++ bytes) (λ _ q. then_line most (line ++ bytes) (line_some line bytes is) q)
    (takes_second IsMessageText (Tail most) lines_alone [] (no_messages most) e line bytes is t)

behind_behind : (m n : ℕ) (e : RunError) → behind m (behind n e) ≡ behind (m + n) e
behind_behind m n (Place place) = ap Place (omega arith)
behind_behind m n Ended = refl
behind_behind m n InvalidKey = refl
behind_behind m n (Mail error) = refl

behind_none : (e : RunError) → e ≡ behind 0 e
behind_none (Place place) = ap Place (omega arith)
behind_none Ended = refl
behind_none InvalidKey = refl
behind_none (Mail error) = refl

-- what is behind these lines was refused
pub tail_behind : (most : ℕ) (e : RunError) (messages : List (List ℕ)) (lines bytes : List ℕ) → IsMessageLines lines messages → OpenTakes (Tail most) e bytes
    → OpenTakes (Tail (length messages + most)) (behind (length lines) e) (lines ++ bytes)
tail_behind most e [] lines bytes is t =
    let none : length {A = List ℕ} [] + most ≡ most = omega arith in
    rw (is, none) (subst (λ (x : RunError). OpenTakes (Tail most) x bytes) (behind_none e) t)
tail_behind most e (message ∷ messages) lines bytes (line, rest, whole, is, others) t =
    let here = tail_second (length messages + most) (behind (length rest) e) line (rest ++ bytes) (message, is) (tail_behind most e messages rest bytes others t) in
    let count : length line + length rest ≡ length lines = sym (ap length whole ∙ length-append line rest) in
    let error : behind (length line) (behind (length rest) e) ≡ behind (length lines) e = behind_behind (length line) (length rest) e ∙ ap (λ (n : ℕ). behind n e) count in
    let text : line ++ (rest ++ bytes) ≡ lines ++ bytes = sym (append_assoc line rest bytes) ∙ ap (λ (t : List ℕ). t ++ bytes) (sym whole) in
    let more : suc (length messages + most) ≡ length (message ∷ messages) + most = omega arith in
    subst (λ (n : ℕ). OpenTakes (Tail n) (behind (length lines) e) (lines ++ bytes)) more
    (subst (λ (t : List ℕ). OpenTakes (Tail (suc (length messages + most))) (behind (length lines) e) t) text
    (subst (λ (x : RunError). OpenTakes (Tail (suc (length messages + most))) x (line ++ (rest ++ bytes))) error here))

-- no line is left
no_line : (b : ℕ) (rest : List ℕ) → StopsAt (Tail 0) (b ∷ rest) 0
no_line b rest = record { within = omega arith; begins = ([], no_messages 0); fails = λ more tail. none_left more tail }
  where
    none_left : (more : List ℕ) → Tail 0 (b ∷ more) → ⊥
    none_left more ([], (lines, few)) = cc lines
    none_left more (message ∷ messages, (lines, few)) = omega (arith, few)

-- one line more
pub lines_push : (messages : List (List ℕ)) (lines line message : List ℕ) → IsMessageLines lines messages → IsLine 0 65536 line message → IsMessageLines (lines ++ line) (messages ++ message ∷ [])
lines_push [] lines line message is last = (line, [], rw is (sym (append-nil line)), last, refl)
lines_push (x ∷ xs) lines line message (first, rest, whole, is, others) last =
    (first, rest ++ line, ap (λ (t : List ℕ). t ++ line) whole ∙ append_assoc first rest line, is, lines_push xs rest line message others last)

-- a line has two bytes for each that it spells, and its feed
pub length-line : (least most : ℕ) (line bytes : List ℕ) → IsLine least most line bytes → length line ≡ 2 * length bytes + 1
length-line least most line bytes is =
    let whole = ap length is.whole in
    let long = (decode_of-ok is.digits bytes is.decodes).2 in
    omega (arith, whole, long, length_push is.digits 10)

-- ---- what was taken of the messages' lines

module _ (messages : List (List ℕ)) (lines : List ℕ) (are : IsMessageLines lines messages) where
  -- a line more was taken
  pub line_taken : (line message : List ℕ) (count more : ℕ) → length lines ≡ count → more ≡ 2 * length message + 1 → IsLine 0 65536 line message
      → IsMessageLines (lines ++ line) (messages ++ message ∷ []) × (length (lines ++ line) ≡ count + more)
  line_taken line message count more long len is =
      (lines_push messages lines line message are is, (let sum = length-append lines line in let line_long = length-line 0 65536 line message is in omega (arith, long, len, sum, line_long)))

  -- the line behind them was refused
  pub line_behind : (e : RunError) (bytes : List ℕ) (count : ℕ) → length lines ≡ count → length messages < 4096 → InputTakes IsMessageText e bytes × (e ≡ Ended → bytes ≢ []) → OpenTakes (Tail 4096) (behind count e) (lines ++ bytes)
  line_behind e bytes count long few t =
      let k = 4095 - length messages in
      let sum : length messages + suc k ≡ 4096 = omega (arith, few) in
      subst (λ (n : ℕ). OpenTakes (Tail 4096) (behind n e) (lines ++ bytes)) long
      (subst (λ (n : ℕ). OpenTakes (Tail n) (behind (length lines) e) (lines ++ bytes)) sum (tail_behind (suc k) e messages lines bytes are (tail_first k e bytes t.1 t.0)))

  -- a byte stands behind the last of them
  pub byte_behind : (b : ℕ) (bytes : List ℕ) (count : ℕ) → length lines ≡ count → length messages ≡ 4096 → bytes ≡ b ∷ [] → OpenTakes (Tail 4096) (Place count) (lines ++ bytes)
  byte_behind b bytes count long full is =
      let none : OpenTakes (Tail 0) (Place 0) (b ∷ []) = (refl, no_line b []) in
      let sum : length messages + 0 ≡ 4096 = omega (arith, full) in
      let there : length lines + 0 ≡ count = omega (arith, long) in
      rw is
      (subst (λ (n : ℕ). OpenTakes (Tail 4096) (Place n) (lines ++ b ∷ [])) there
      (subst (λ (n : ℕ). OpenTakes (Tail n) (Place (length lines + 0)) (lines ++ b ∷ [])) sum (tail_behind 0 (Place 0) messages lines (b ∷ []) are none)))

  -- they begin an input
  lines_begin : length messages ≤ 4096 → Begins (Tail 4096) lines
  lines_begin few = Begins-whole (Tail 4096) lines (messages, (are, few))

  pub lines_memory : length messages ≤ 4096 → OpenTakes (Tail 4096) (Mail NoMemory) lines
  lines_memory few = inl (refl, Reaches-begins (Tail 4096) lines (lines_begin few))

  pub lines_fault : (bytes : List ℕ) → bytes ≡ [] → length messages ≤ 4096 → OpenTakes (Tail 4096) (Mail ReadFault) (lines ++ bytes)
  lines_fault bytes none few = inr (refl, subst (Begins (Tail 4096)) (sym (ap (λ (t : List ℕ). lines ++ t) none ∙ append-nil lines)) (lines_begin few))

-- ---- what was taken of a line, and then of what is behind it

module _ (least most : ℕ) (B : List ℕ → Type 0) (zero_text : List ℕ) (zero_is : B zero_text) (X Y : Type 0) (Holds : List ℕ → X → Type 0) (Both : List ℕ → Y → Type 0) where
  -- the line was refused
  pub lost_line : (before now : Option (List ℕ)) (e : RunError) → Lost before now (InputTaken (IsLineText least most) Holds (Err e)) → Lost before now (OpenTaken (Then (IsLineText least most) B) Both (Err e))
  lost_line before now e l =
      Lost_weaker before now (InputTakes (IsLineText least most) e) (OpenTakes (Then (IsLineText least most) B) e) l (λ bytes t. takes_first (IsLineText least most) B (one_line_end least most) zero_text zero_is e bytes t)

  -- what is behind it was
  pub lost_behind : (before mid now : Option (List ℕ)) (line : List ℕ) (count : ℕ) (e : RunError) → count ≡ 2 * length line + 1 → Lost before mid (λ t. IsLine least most t line) → Lost mid now (OpenTakes B e)
      → Lost before now (OpenTaken (Then (IsLineText least most) B) Both (Err (behind count e)))
  lost_behind before mid now line count e long l r =
      Lost_then before mid now (λ t. IsLine least most t line) (OpenTakes B e) (OpenTakes (Then (IsLineText least most) B) (behind count e)) l r (λ a b p q.
      let same : length a ≡ count = length-line least most a line p ∙ sym long in
      subst (λ (n : ℕ). OpenTakes (Then (IsLineText least most) B) (behind n e) (a ++ b)) same
      (takes_second (IsLineText least most) B (one_line_end least most) zero_text zero_is e a b (line, p) q))

-- ---- lines hold one list of messages

pub one_messages : (lines : List ℕ) (xs ys : List (List ℕ)) → IsMessageLines lines xs → IsMessageLines lines ys → xs ≡ ys
one_messages lines [] [] h k = refl
one_messages lines [] (y ∷ ys) h (line, rest, whole, is, others) = absurd (line_some line rest (y, is) (sym whole ∙ h))
one_messages lines (x ∷ xs) [] (line, rest, whole, is, others) k = absurd (line_some line rest (x, is) (sym whole ∙ k))
one_messages lines (x ∷ xs) (y ∷ ys) (line, rest, whole, is, others) (line', rest', whole', is', others') =
    let same = lines_alone line line' rest rest' (x, is) (y, is') (sym whole ∙ whole') in
    let first : x ≡ y = one_line_value 0 65536 line' x y (subst (λ (t : List ℕ). IsLine 0 65536 t x) same.0 is) is' in
    let behind : xs ≡ ys = one_messages rest' xs ys (subst (λ (t : List ℕ). IsMessageLines t xs) same.1 others) others' in
    cc (first, behind)

-- ---- what stands in a text

some_tail : (most : ℕ) (text : List ℕ) → StandsOpen (Tail most) text
some_tail most [] = inl (no_messages most)
some_tail zero (b ∷ rest) = inr (inl (0, no_line b rest))
some_tail (suc most) (b ∷ rest) =
    stands_there_some (Then IsMessageText (Tail most)) (Tail (suc most)) (line_then most) (then_line most) (b ∷ rest) (λ e. cc e)
    (some_both IsMessageText (Tail most) lines_alone [] (no_messages most) (some_line 0 65536 (omega arith) refl) (some_tail most) (b ∷ rest))

-- the shortest line of an info, and of a source
zero_info : IsLineText 0 8192 (10 ∷ [])
zero_info = IsLineText-digits 0 8192 [] (omega arith) (omega arith) refl tt

zero_source : (t : List ℕ) × IsLineText 64 64 t
zero_source = (zeros 64 ++ 10 ∷ [], IsLineText-digits 64 64 (zeros 64) (rw (length-zeros 64) (omega arith)) (rw (length-zeros 64) (omega arith)) (rw (length-zeros 64) refl) (Digits-zeros 64))

pub least_source : List ℕ
least_source = zero_source.0 ++ []

pub least_source_is : FromSource least_source
unfolding zero_source least_source
least_source_is = (zero_source.0, [], refl, zero_source.1, no_messages 4096)

pub least_info : List ℕ
least_info = 10 ∷ least_source

pub least_info_is : FromInfo least_info
unfolding least_info
least_info_is = (10 ∷ [], least_source, refl, zero_info, least_source_is)

-- ---- the whole input

module _ (size : ℕ) where
  abbrev pub IsKeyText : List ℕ → Type 0
  IsKeyText text = IsLineText (2 * size) (2 * size) text

  -- from the line of the key on
  abbrev pub FromKey : List ℕ → Type 0
  FromKey text = Then IsKeyText FromInfo text

  to_input : (text : List ℕ) → FromKey text → IsSealText size text
  to_input text (first, a, whole, (key, key_is), (second, b, whole', (info, info_is), (third, others, whole'', (source, source_is), (messages, message_is)))) = (
    key,
    info,
    source,
    messages,
    record {
      first = first;
      second = second;
      third = third;
      others = others;
      whole = whole ∙ ap (λ (t : List ℕ). first ++ t) (whole' ∙ ap (λ (t : List ℕ). second ++ t) whole'');
      key_line = key_is;
      info_line = info_is;
      source_line = source_is;
      message_lines = message_is;
    },
  )

  of_input : (text : List ℕ) → IsSealText size text → FromKey text
  of_input text (key, info, source, messages, h) =
      (h.first, h.second ++ (h.third ++ h.others), h.whole, (key, h.key_line), (h.second, h.third ++ h.others, refl, (info, h.info_line), (h.third, h.others, refl, (source, h.source_line), (messages, h.message_lines))))

  -- what was taken from the line of the key on
  pub takes_input : (e : RunError) (bytes : List ℕ) → OpenTakes FromKey e bytes → OpenTakes (IsSealText size) e bytes
  takes_input e bytes t = takes_there FromKey (IsSealText size) to_input (λ t some. of_input t) e bytes (λ _. of_input bytes) t

  pub seal_input_made : (a b key info source : List ℕ) (messages : List (List ℕ)) → IsLine (2 * size) (2 * size) a key → HoldsFromInfo b info source messages → IsSealInput size (a ++ b) key info source messages
  seal_input_made a b key info source messages key_is (second, rest, whole, info_is, (third, others, whole', source_is, message_is)) = record {
    first = a;
    second = second;
    third = third;
    others = others;
    whole = ap (λ (t : List ℕ). a ++ t) (whole ∙ ap (λ (t : List ℕ). second ++ t) whole');
    key_line = key_is;
    info_line = info_is;
    source_line = source_is;
    message_lines = message_is;
  }

  -- what stands in a text
  stands_there : (text : List ℕ) → StandsOpen FromKey text → StandsOpen (IsSealText size) text
  stands_there text stands = stands_same FromKey (IsSealText size) to_input of_input text stands

  pub some_seal_input : (text : List ℕ) → StandsOpen (IsSealText size) text
  some_seal_input text =
      stands_there text (some_both IsKeyText FromInfo (one_line_end (2 * size) (2 * size)) least_info least_info_is (some_line (2 * size) (2 * size) (omega arith) even)
      (some_both (IsLineText 0 8192) FromSource (one_line_end 0 8192) least_source least_source_is (some_line 0 8192 (omega arith) refl)
      (some_both (IsLineText 64 64) (Tail 4096) (one_line_end 64 64) [] (no_messages 4096) (some_line 64 64 (omega arith) refl) (some_tail 4096))) text)
    where
      even : 2 * size % 2 ≡ 0
      even = omega arith

-- ---- an input holds one key, info, source and list of messages

module _ (size : ℕ) (text key info source key' info' source' : List ℕ) (messages messages' : List (List ℕ)) (h : IsSealInput size text key info source messages) (k : IsSealInput size text key' info' source' messages') where
  firsts : (h.first ≡ k.first) × (h.second ++ (h.third ++ h.others) ≡ k.second ++ (k.third ++ k.others))
  firsts = one_line_end (2 * size) (2 * size) h.first k.first (h.second ++ (h.third ++ h.others)) (k.second ++ (k.third ++ k.others)) (key, h.key_line) (key', k.key_line) (sym h.whole ∙ k.whole)

  seconds : (h.second ≡ k.second) × (h.third ++ h.others ≡ k.third ++ k.others)
  seconds = one_line_end 0 8192 h.second k.second (h.third ++ h.others) (k.third ++ k.others) (info, h.info_line) (info', k.info_line) firsts.1

  thirds : (h.third ≡ k.third) × (h.others ≡ k.others)
  thirds = one_line_end 64 64 h.third k.third h.others k.others (source, h.source_line) (source', k.source_line) seconds.1

  pub one_key : key ≡ key'
  one_key = one_line_value (2 * size) (2 * size) k.first key key' (subst (λ (t : List ℕ). IsLine (2 * size) (2 * size) t key) firsts.0 h.key_line) k.key_line

  pub one_info : info ≡ info'
  one_info = one_line_value 0 8192 k.second info info' (subst (λ (t : List ℕ). IsLine 0 8192 t info) seconds.0 h.info_line) k.info_line

  pub one_source : source ≡ source'
  one_source = one_line_value 64 64 k.third source source' (subst (λ (t : List ℕ). IsLine 64 64 t source) thirds.0 h.source_line) k.source_line

  pub one_message_list : messages ≡ messages'
  one_message_list = one_messages k.others messages messages' (subst (λ (t : List ℕ). IsMessageLines t messages) thirds.1 h.message_lines.0) k.message_lines.0
