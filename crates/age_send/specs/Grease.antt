-- Grease: a stanza that says nothing, so that readers keep passing over what they don't know.
-- A stream of random numbers fixes it.
use Rattle.std.specs.Prelude.{◌≡◌, ℕ, zero, suc, ◌+◌, ◌-◌, ◌%◌, List, [], ◌∷◌, ◌++◌, codes}
use Rattle.rand_core.specs.Stream.{Call, Stream, next_u32, fill_bytes}
use Rattle.age_format.specs.Stanza.{Stanza, IsBytes}

-- what was drawn from a stream, and the stream that is left
abbrev pub Drawn : Type 0 → Type 0
Drawn A = A × Stream

-- a number from low to high: the remainder of one word, and nothing is drawn again
unfoldable pub drawn_number : ℕ → ℕ → Stream → Drawn ℕ
drawn_number low high stream = (low + (next_u32 stream).0 % (high - low + 1), (next_u32 stream).1)

-- n values, each by this draw, in order
unfoldable pub drawn_list : {A : Type 0} → (Stream → Drawn A) → ℕ → Stream → Drawn (List A)
drawn_list draw zero stream = ([], stream)
drawn_list draw (suc n) stream =
    let first = draw stream in
    let others = drawn_list draw n first.1 in
    (first.0 ∷ others.0, others.1)

-- n visible ASCII characters
abbrev pub drawn_characters : ℕ → Stream → Drawn (List ℕ)
drawn_characters n stream = drawn_list (drawn_number 33 126) n stream

-- a string of 1 to 8 characters: its length, then they
unfoldable pub drawn_string : Stream → Drawn (List ℕ)
drawn_string stream =
    let n = drawn_number 1 8 stream in
    drawn_characters n.0 n.1

-- n strings
abbrev pub drawn_strings : ℕ → Stream → Drawn (List (List ℕ))
drawn_strings n stream = drawn_list drawn_string n stream

-- 0 to 4 arguments: their number, then they
unfoldable pub drawn_arguments : Stream → Drawn (List (List ℕ))
drawn_arguments stream =
    let n = drawn_number 0 4 stream in
    drawn_strings n.0 n.1

-- a body of 0 to 99 bytes: its length, then they
unfoldable pub drawn_body : Stream → Drawn (List ℕ)
drawn_body stream =
    let n = drawn_number 0 99 stream in
    fill_bytes n.0 n.1

-- a grease stanza: the tag, which is a string and then `-grease`, the arguments, and the body, in this order
unfoldable pub drawn_grease : Stream → Drawn Stanza
drawn_grease stream =
    let front = drawn_string stream in
    let args = drawn_arguments front.1 in
    let body = drawn_body args.1 in
    (record { tag = front.0 ++ codes "-grease"; args = args.0; body = body.0 }, body.1)

-- a stanza that is tagged as grease
abbrev pub IsGrease : Stanza → Type 0
IsGrease s = (front : List ℕ) × (s.tag ≡ front ++ codes "-grease")

-- what a stream fills a buffer with are bytes, after any calls
abbrev pub GivesBytes : Stream → Type 0
GivesBytes stream = (calls : List Call) (n : ℕ) → IsBytes (stream.bytes_after calls n)
