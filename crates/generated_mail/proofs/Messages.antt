-- The messages that are made, and what their number says of them.
use Rattle.std.proofs.Common.{◌≡◌, ℕ, ◌+◌, ◌≤◌, ◌%◌, List, [], ◌∷◌, ◌++◌, length, map, Option, None, Some, Vec, Global, refl, sym, ap, ◌∙◌, arith}
use Rattle.std.specs.Prelude.{All}
use Rattle.std.specs.List.{AllByRecursion, range_with_len}
use Rattle.std.specs.Option.{option_map}
use Rattle.std.proofs.lemmas.List.{length-replicate, map-append}
use Rattle.std.proofs.lemmas.List.FromFn.{map-range_with_len_more}
use Rattle.std.proofs.lemmas.List.Elements.{All-map, All-from_recursion}
use Rattle.std.proofs.lemmas.Option.{none-some, same_Some}
use Rattle.ml_kem.specs.Expanded.{SecretKey, key_of_seed}
use Rattle.ml_kem.specs.Keys.{Key}
use Rattle.generated_mail.specs.Made.{generated_message, generated_messages}

short : (i : ℕ) → length (generated_message i) ≤ 32768
short i = let long = length-replicate (i % 97) (i % 256) in omega (arith, long)

-- each is short
pub all_short : (count : ℕ) → All (λ m. length m ≤ 32768) (generated_messages count)
all_short count = All-map (λ m. length m ≤ 32768) generated_message (range_with_len 0 count) (All-from_recursion (λ i. length (generated_message i) ≤ 32768) (range_with_len 0 count) (each (range_with_len 0 count)))
  where
    each : (is : List ℕ) → AllByRecursion (λ i. length (generated_message i) ≤ 32768) is
    each [] = tt
    each (i ∷ is) = (short i, each is)

-- the key that a seed gives, where its secrets are there
pub key_there : (seed : List ℕ) (o : Option Key) (secret : SecretKey) → option_map (key_of_seed seed) o ≡ Some secret → (key : Key) × (o ≡ Some key) × (secret.ek ≡ key.ek)
key_there seed None secret is = absurd (none-some secret is)
key_there seed (Some key) secret is = (key, refl, ap (λ (s : SecretKey). s.ek) (sym (same_Some (key_of_seed seed key) secret is)))

-- one message more
pub more_messages : (before : List (Vec ℕ Global)) (message : Vec ℕ Global) (after : List (Vec ℕ Global)) (i : ℕ) → after ≡ before ++ message ∷ [] → map (λ m. m.items) before ≡ generated_messages i
    → message.items ≡ generated_message i → map (λ m. m.items) after ≡ generated_messages (i + 1)
more_messages before message after i pushed so_far is =
    ap (λ (ms : List (Vec ℕ Global)). map (λ m. m.items) ms) pushed ∙ (map-append (λ m. m.items) before (message ∷ [])
    ∙ (ap (λ (ms : List (List ℕ)). ms ++ message.items ∷ []) so_far ∙ (ap (λ (m : List ℕ). generated_messages i ++ m ∷ []) is
    ∙ sym (map-range_with_len_more generated_message 0 i i (omega arith)))))
