-- Keys as one block.
use Rattle.std.proofs.Common.{◌≡◌, ℕ, ◌+◌, ◌-◌, ◌≤◌, ◌<◌, List, ◌++◌, length, take, drop, replicate, get_or, set, bit_xor, arith, ap, ◌∙◌, length-append, length-drop, Bool, false, cond, nat_lt}
use Rattle.std.proofs.lemmas.List.{length-replicate, replicate-append-replicate, drop-replicate, take-replicate, append-nil, take-map, length-map, length-take-le, take_all, drop_all, get_or_default}
use Rattle.std.proofs.lemmas.Bool.Decides.{nat_tests}
use Rattle.std.proofs.lemmas.List.Edits.{map_over_more}
use Rattle.std.proofs.Math.Seq.{take-append-add}
use Rattle.hkdf_core.specs.Hmac.{key_block, zero_padded, masked}

-- the front of a key that was written over zeros
pub take-over_zeros : (key : List ℕ) (n room : ℕ) → length key ≤ n → n ≤ room
    → take n (key ++ drop (length key) (replicate room 0)) ≡ zero_padded n key
take-over_zeros key n room fits within =
    let split : n ≡ length key + (n - length key) = omega arith in
    let shorter : n - length key ≤ room - length key = omega arith in
    let zeros : drop (length key) (replicate room 0) ≡ replicate (room - length key) 0 = drop-replicate (length key) room 0 in
    ap (λ (k : ℕ). take k (key ++ drop (length key) (replicate room 0))) split
    ∙ take-append-add key (drop (length key) (replicate room 0)) (n - length key)
    ∙ ap (λ (rest : List ℕ). key ++ take (n - length key) rest) zeros
    ∙ ap (λ (rest : List ℕ). key ++ rest) (take-replicate (n - length key) (room - length key) 0 shorter)

-- a block of which the first bytes are masked keeps its length
length-masked_front : (pad : ℕ) (bytes block : List ℕ) (i : ℕ) → i ≤ length bytes
    → block ≡ masked pad (take i bytes) ++ drop i bytes → length block ≡ length bytes
length-masked_front pad bytes block i within so_far =
    let parts = length-append (masked pad (take i bytes)) (drop i bytes) in
    let front = length-map (take i bytes) (λ (byte : ℕ). bit_xor byte pad) in
    omega (arith, ap length so_far, parts, front, length-take-le i bytes within, length-drop i bytes)

-- one byte more of a block is masked
pub masked_more : (pad : ℕ) (bytes block : List ℕ) (i : ℕ) → i < length bytes
    → block ≡ masked pad (take i bytes) ++ drop i bytes
    → set block i (bit_xor (get_or block i 0) pad) ≡ masked pad (take (i + 1) bytes) ++ drop (i + 1) bytes
masked_more pad bytes block i within so_far =
    let long : length block ≡ length bytes = length-masked_front pad bytes block i (omega arith) so_far in
    let inside : i < length block = omega arith in
    map_over_more (λ (byte : ℕ). bit_xor byte pad) bytes block i (get_or block i 0) within so_far
    (get_or_default block i 0 (get_or block i 0) inside)

-- the front of a block that is masked whole
pub take-masked : (pad : ℕ) (bytes block : List ℕ) (i n : ℕ) → length bytes ≤ i
    → block ≡ masked pad (take i bytes) ++ drop i bytes → take n block ≡ masked pad (take n bytes)
take-masked pad bytes block i n whole so_far =
    let all : take i bytes ≡ bytes = take_all i bytes whole in
    let none = drop_all i bytes whole in
    rw (so_far, all, none, append-nil) (take-map (λ (byte : ℕ). bit_xor byte pad) n bytes)

-- a key that fits a block
key_block-short : (hash : List ℕ → List ℕ) (block_size : ℕ) (key : List ℕ) → length key ≤ block_size
    → key_block hash block_size key ≡ zero_padded block_size key
key_block-short hash block_size key fits =
    let short : nat_lt block_size (length key) ≡ false = grind (arith, nat_tests) in
    ap (λ (longer : Bool). zero_padded block_size (cond longer (hash key) key)) short

-- a key of zeros that fits a block
pub key_block-zeros : (hash : List ℕ → List ℕ) (block_size n : ℕ) → n ≤ block_size
    → key_block hash block_size (replicate n 0) ≡ replicate block_size 0
key_block-zeros hash block_size n fits =
    let zeros : List ℕ = replicate n 0 in
    let long : length zeros ≡ n = length-replicate n 0 in
    let whole : n + (block_size - length zeros) ≡ block_size = omega arith in
    key_block-short hash block_size zeros (omega arith)
    ∙ replicate-append-replicate n (block_size - length zeros) 0
    ∙ ap (λ (k : ℕ). replicate k 0) whole
