-- How long the outputs are, and that they are bytes.
use Rattle.std.proofs.Common.{◌≡◌, ℕ, zero, suc, ◌*◌, ◌<◌, ◌≤◌, List, [], ◌∷◌, length, take, All, arith, refl, sym, ◌∙◌}
use Rattle.std.specs.Int.{w64, to_le_bytes, byte_at, div_ceil}
use Rattle.std.proofs.lemmas.Grind.{div_ceil_times}
use Rattle.std.proofs.lemmas.List.{length-take-le, take-take}
use Rattle.std.proofs.lemmas.List.Elements.{All-append, All-cons, All-nil, All-take}
use Rattle.sha3.specs.Keccak.{keccak_f}
use Rattle.sha3.specs.Sha3.{hash_suffix, xof_suffix, sha3_256, sha3_512, shake128, shake256}
use Rattle.sha3.specs.Sponge.{absorbed, absorbed_whole, output, padded, squeezed, state_bytes}
use Rattle.sha3.proofs.Squeezing.{length-keccak_f, length-squeezed, output-at}

abbrev IsByte : ℕ → Type 0
IsByte x = x < 256

byte_at-below : (i n : ℕ) → byte_at i n < 256
byte_at-below zero n = omega arith
byte_at-below (suc i) n = omega arith

-- the bytes of a lane
All-lane : (x : ℕ) → All IsByte (to_le_bytes w64 x)
All-lane x = All-cons IsByte (byte_at 0 x) (byte_at 1 x ∷ byte_at 2 x ∷ byte_at 3 x ∷ byte_at 4 x ∷ byte_at 5 x ∷ byte_at 6 x ∷ byte_at 7 x ∷ []) (byte_at-below 0 x)
    (All-cons IsByte (byte_at 1 x) (byte_at 2 x ∷ byte_at 3 x ∷ byte_at 4 x ∷ byte_at 5 x ∷ byte_at 6 x ∷ byte_at 7 x ∷ []) (byte_at-below 1 x)
    (All-cons IsByte (byte_at 2 x) (byte_at 3 x ∷ byte_at 4 x ∷ byte_at 5 x ∷ byte_at 6 x ∷ byte_at 7 x ∷ []) (byte_at-below 2 x)
    (All-cons IsByte (byte_at 3 x) (byte_at 4 x ∷ byte_at 5 x ∷ byte_at 6 x ∷ byte_at 7 x ∷ []) (byte_at-below 3 x)
    (All-cons IsByte (byte_at 4 x) (byte_at 5 x ∷ byte_at 6 x ∷ byte_at 7 x ∷ []) (byte_at-below 4 x)
    (All-cons IsByte (byte_at 5 x) (byte_at 6 x ∷ byte_at 7 x ∷ []) (byte_at-below 5 x)
    (All-cons IsByte (byte_at 6 x) (byte_at 7 x ∷ []) (byte_at-below 6 x)
    (All-cons IsByte (byte_at 7 x) [] (byte_at-below 7 x) (All-nil IsByte))))))))

All-state_bytes : (a : List ℕ) → All IsByte (state_bytes a)
unfolding state_bytes
All-state_bytes [] = All-nil IsByte
All-state_bytes (x ∷ xs) = All-append IsByte (to_le_bytes w64 x) (state_bytes xs) (All-lane x) (All-state_bytes xs)

All-squeezed : (rate : ℕ) (a : List ℕ) (n : ℕ) → All IsByte (squeezed rate a n)
unfolding squeezed
All-squeezed rate a zero = All-nil IsByte
All-squeezed rate a (suc n) =
    All-append IsByte (take rate (state_bytes a)) (squeezed rate (keccak_f a) n) (All-take IsByte rate (state_bytes a) (All-state_bytes a)) (All-squeezed rate (keccak_f a) n)

pub All-output : (rate : ℕ) (a : List ℕ) (d : ℕ) → All (λ x. x < 256) (output rate a d)
unfolding output
All-output rate a d = All-take IsByte d (squeezed rate a (div_ceil d rate)) (All-squeezed rate a (div_ceil d rate))

pub length-output : (rate : ℕ) (a : List ℕ) (d : ℕ) → 0 < rate → rate ≤ 200 → length a ≡ 25 → length (output rate a d) ≡ d
unfolding output
length-output rate a d positive most is =
    let enough : d ≤ div_ceil d rate * rate = (div_ceil_times d rate positive).0 in
    length-take-le d (squeezed rate a (div_ceil d rate)) (omega (arith, length-squeezed rate a (div_ceil d rate) most is, enough))

length-absorbed : (rate : ℕ) (p : List ℕ) (n : ℕ) → length (absorbed rate p n) ≡ 25
unfolding absorbed
length-absorbed rate p zero = refl
length-absorbed rate p (suc n) = length-keccak_f _

length-absorbed_whole : (rate : ℕ) (suffix m : List ℕ) → length (absorbed_whole rate suffix m) ≡ 25
unfolding absorbed_whole
length-absorbed_whole rate suffix m = length-absorbed rate (padded rate suffix m) _

pub length-sha3_256 : (m : List ℕ) → length (sha3_256 m) ≡ 32
length-sha3_256 m = length-output 136 (absorbed_whole 136 hash_suffix m) 32 (omega arith) (omega arith) (length-absorbed_whole 136 hash_suffix m)

pub length-sha3_512 : (m : List ℕ) → length (sha3_512 m) ≡ 64
length-sha3_512 m = length-output 72 (absorbed_whole 72 hash_suffix m) 64 (omega arith) (omega arith) (length-absorbed_whole 72 hash_suffix m)

pub length-shake128 : (m : List ℕ) (d : ℕ) → length (shake128 m d) ≡ d
length-shake128 m d = length-output 168 (absorbed_whole 168 xof_suffix m) d (omega arith) (omega arith) (length-absorbed_whole 168 xof_suffix m)

pub length-shake256 : (m : List ℕ) (d : ℕ) → length (shake256 m d) ≡ d
length-shake256 m d = length-output 136 (absorbed_whole 136 xof_suffix m) d (omega arith) (omega arith) (length-absorbed_whole 136 xof_suffix m)

pub All-sha3_256 : (m : List ℕ) → All (λ x. x < 256) (sha3_256 m)
All-sha3_256 m = All-output 136 (absorbed_whole 136 hash_suffix m) 32

pub All-sha3_512 : (m : List ℕ) → All (λ x. x < 256) (sha3_512 m)
All-sha3_512 m = All-output 72 (absorbed_whole 72 hash_suffix m) 64

pub All-shake128 : (m : List ℕ) (d : ℕ) → All (λ x. x < 256) (shake128 m d)
All-shake128 m d = All-output 168 (absorbed_whole 168 xof_suffix m) d

pub All-shake256 : (m : List ℕ) (d : ℕ) → All (λ x. x < 256) (shake256 m d)
All-shake256 m d = All-output 136 (absorbed_whole 136 xof_suffix m) d

-- fewer bytes of an output are the front of more
take-output : (rate : ℕ) (a : List ℕ) (d e : ℕ) → 0 < rate → rate ≤ 200 → length a ≡ 25 → d ≤ e → take d (output rate a e) ≡ output rate a d
unfolding output
take-output rate a d e positive most is fewer =
    let enough : e ≤ div_ceil e rate * rate = (div_ceil_times e rate positive).0 in
    take-take d e (squeezed rate a (div_ceil e rate)) fewer
    ∙ sym (output-at rate a (div_ceil e rate) d positive most is (omega (arith, fewer, enough)))

pub take-shake128 : (m : List ℕ) (d e : ℕ) → d ≤ e → take d (shake128 m e) ≡ shake128 m d
take-shake128 m d e = take-output 168 (absorbed_whole 168 xof_suffix m) d e (omega arith) (omega arith) (length-absorbed_whole 168 xof_suffix m)

pub take-shake256 : (m : List ℕ) (d e : ℕ) → d ≤ e → take d (shake256 m e) ≡ shake256 m d
take-shake256 m d e = take-output 136 (absorbed_whole 136 xof_suffix m) d e (omega arith) (omega arith) (length-absorbed_whole 136 xof_suffix m)
