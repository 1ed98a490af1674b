-- What the random source of `seal` gives are bytes.
use Rattle.std.proofs.Common.{◌<◌, ℕ, zero, suc, ◌+◌, ◌/◌, ◌%◌, ◌^◌, List, [], ◌∷◌, ◌++◌, sym, subst, append_assoc, arith}
use Rattle.std.specs.Int.{byte_at, bytes_low_first, to_le_bytes, w32}
use Rattle.std.proofs.lemmas.List.{append-nil}
use Rattle.rand_core.specs.Steps.{state_after, steps_u32, stream_of, word_bytes}
use Rattle.rand_core.specs.Stream.{bytes_call, fill_bytes}
use Rattle.rand_chacha.specs.ChaCha.{next_word, of_seed}
use Rattle.age_format.specs.Stanza.{IsBytes}
use Rattle.age_format.proofs.Cases.{IsBytes-push}
use Rattle.age_format.proofs.Lines.{IsBytes-take}
use Rattle.age_send.specs.Grease.{GivesBytes}
use Rattle.generated_mail.specs.Made.{source_stream}

no_bytes : IsBytes []
no_bytes i = omega arith

small : (n : ℕ) → n % 256 < 256
small n = omega arith

byte_small : (i n : ℕ) → byte_at i n < 256
byte_small zero n = small n
byte_small (suc i) n = small (n / 256 ^ suc i)

low_bytes : (k i n : ℕ) (xs : List ℕ) → IsBytes xs → IsBytes (xs ++ bytes_low_first i k n)
low_bytes zero i n xs h = subst IsBytes (sym (append-nil xs)) h
low_bytes (suc k) i n xs h =
    subst IsBytes (append_assoc xs (byte_at i n ∷ []) (bytes_low_first (suc i) k n)) (low_bytes k (suc i) n (xs ++ byte_at i n ∷ []) (IsBytes-push xs (byte_at i n) h (byte_small i n)))

-- words in bytes
words_bytes : {S : Type 0} (step : S → ℕ × S) (k : ℕ) (s : S) → IsBytes (word_bytes (to_le_bytes w32) step k s).0
unfolding word_bytes
words_bytes step zero s = no_bytes
words_bytes step (suc k) s =
    let before = word_bytes (to_le_bytes w32) step k s in
    low_bytes 4 0 (step before.1).0 before.0 (words_bytes step k s)

-- a stream of words
gives_words : {S : Type 0} (step : S → ℕ × S) (s : S) → GivesBytes (stream_of (steps_u32 step) s)
unfolding stream_of
gives_words step s calls n =
    let now = state_after (steps_u32 step) calls s in
    IsBytes-take n (word_bytes (to_le_bytes w32) step ((n + 3) / 4) now).0 (words_bytes step ((n + 3) / 4) now)

-- behind the 32 bytes for the encapsulated key
pub source_bytes : (source : List ℕ) → GivesBytes (fill_bytes 32 (source_stream source)).1
unfolding source_stream fill_bytes
source_bytes source calls n = gives_words (next_word 10) (of_seed source) (bytes_call 32 ∷ calls) n
