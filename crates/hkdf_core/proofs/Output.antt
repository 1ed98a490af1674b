-- The output of HKDF-Expand, block by block.
use Rattle.std.proofs.Common.{◌≡◌, ℕ, zero, suc, ◌+◌, ◌-◌, ◌*◌, ◌≤◌, ◌<◌, inl, inr, List, [], ◌∷◌, ◌++◌, length, take, drop, sym, arith, ap, ◌∙◌, length-append, length-take, add-one}
use Rattle.std.specs.Int.{div_ceil}
use Rattle.std.proofs.lemmas.List.{append-nil, take_all, drop_all, take_at}
use Rattle.std.proofs.lemmas.Bool.{cases_lt}
use Rattle.std.proofs.Math.Seq.{take-append-add}
use Rattle.hkdf_core.specs.Hmac.{hmac}
use Rattle.hkdf_core.specs.Hkdf.{output_block, output_blocks}

-- the blocks below the last one begin within the output
pub block_begins_within : (index len size : ℕ) → 0 < size → index < div_ceil len size → index * size < len
block_begins_within index len size positive below = grind arith

-- a block that begins within an output of at most `most` digests is numbered below that
pub index_below : (index len size most : ℕ) → index * size < len → len ≤ most * size → index < most
index_below index len size most begins fits = grind arith

-- the blocks cover the output
pub blocks_cover : (len size : ℕ) → 0 < size → len ≤ div_ceil len size * size
blocks_cover len size positive = grind arith

-- the length of HMAC is that of a digest
pub length-hmac : (hash : List ℕ → List ℕ) (block_size size : ℕ) (key text : List ℕ) → ((message : List ℕ) → length (hash message) ≡ size)
    → length (hmac hash block_size key text) ≡ size
unfolding hmac
length-hmac hash block_size size key text has_size = has_size _

-- the length of the first n blocks
pub length-output_blocks : (mac : List ℕ → List ℕ) (info : List ℕ) (size n : ℕ) → ((text : List ℕ) → length (mac text) ≡ size)
    → length (output_blocks mac info n) ≡ n * size
unfolding output_blocks output_block
length-output_blocks mac info size zero has_size = omega arith
length-output_blocks mac info size (suc n) has_size =
    let before = length-output_blocks mac info size n has_size in
    let last : length (output_block mac info (suc n)) ≡ size = has_size _ in
    let both = length-append (output_blocks mac info n) (output_block mac info (suc n)) in
    omega (arith, before, last, both)

-- the next block, as the code computes it
pub output_block_more : (mac : List ℕ → List ℕ) (info previous : List ℕ) (index : ℕ) → previous ≡ output_block mac info index
    → mac (previous ++ info ++ (index + 1) ∷ []) ≡ output_block mac info (index + 1)
unfolding output_block
output_block_more mac info previous index is_previous =
    ap (λ (before : List ℕ). mac (before ++ info ++ (index + 1) ∷ [])) is_previous ∙ ap (output_block mac info) (sym (add-one index))

-- the first blocks, one more
pub output_blocks_more : (mac : List ℕ → List ℕ) (info : List ℕ) (index : ℕ)
    → output_blocks mac info (index + 1) ≡ output_blocks mac info index ++ output_block mac info (index + 1)
unfolding output_blocks
output_blocks_more mac info index = rw add-one

-- one block more is written, as far as it fits
written_more : (out done block : List ℕ) (at size : ℕ) → length done ≡ at → length block ≡ size → at < length out
    → take at out ≡ take (length out) done
    → take (at + size) (take at out ++ take (length out - at) block ++ drop (at + size) out) ≡ take (length out) (done ++ block)
written_more out done block at size done_long block_long within so_far =
    let room : ℕ = length out - at in
    let front : take at out ≡ done = so_far ∙ take_all (length out) done (omega arith) in
    let split : length out ≡ length done + room = omega arith in
    let right : take (length out) (done ++ block) ≡ done ++ take room block =
    ap (λ (n : ℕ). take n (done ++ block)) split ∙ take-append-add done block room in
    let left : take (at + size) (done ++ take room block ++ drop (at + size) out) ≡ done ++ take room block =
    elim (cases_lt room size) [
      | inl short ↦
          let none : drop (at + size) out ≡ [] = drop_all (at + size) out (omega arith) in
          let joined = length-append done (take room block) in
          let cut = length-take room block in
          ap (λ (rest : List ℕ). take (at + size) (done ++ take room block ++ rest)) none
          ∙ ap (take (at + size)) (append-nil (done ++ take room block))
          ∙ take_all (at + size) (done ++ take room block) (omega arith)
      | inr long ↦
          let joined = length-append done (take room block) in
          let whole : take room block ≡ block = take_all room block (omega arith) in
          let sizes = ap length whole in
          take_at (done ++ take room block) (drop (at + size) out) (at + size) (omega arith)
    ] in
    ap (λ (before : List ℕ). take (at + size) (before ++ take room block ++ drop (at + size) out)) front ∙ left ∙ sym right

-- one block more is written, as the code writes it: `piece` is the block, and `step` is its size
pub output_more : (out new done block piece : List ℕ) (index size step : ℕ) → step ≡ size → piece ≡ block
    → length done ≡ index * size → length block ≡ size → index * size < length out → length new ≡ length out
    → take (index * size) out ≡ take (length out) done
    → new ≡ take (index * step) out ++ take (length out - index * step) piece ++ drop (index * step + length piece) out
    → take ((index + 1) * size) new ≡ take (length new) (done ++ block)
output_more out new done block piece index size step is_size is_block done_long block_long within keeps so_far written =
    let next : (index + 1) * size ≡ index * size + size = omega arith in
    let as_block : new ≡ take (index * size) out ++ take (length out - index * size) block ++ drop (index * size + size) out =
    written
    ∙ ap (λ (n : ℕ). take (index * n) out ++ take (length out - index * n) piece ++ drop (index * n + length piece) out) is_size
    ∙ ap (λ (p : List ℕ). take (index * size) out ++ take (length out - index * size) p ++ drop (index * size + length p) out) is_block
    ∙ ap (λ (n : ℕ). take (index * size) out ++ take (length out - index * size) block ++ drop (index * size + n) out) block_long in
    ap (λ (n : ℕ). take n new) next
    ∙ ap (take (index * size + size)) as_block
    ∙ written_more out done block (index * size) size done_long block_long within so_far
    ∙ ap (λ (n : ℕ). take n (done ++ block)) (sym keeps)

-- where all blocks are written, the output is the front of the blocks
pub output_whole : (blocks : ℕ → List ℕ) (out : List ℕ) (index len size value_size : ℕ) → 0 < size → size ≡ value_size
    → index ≡ div_ceil len size → length out ≡ len → take (index * size) out ≡ take (length out) (blocks index)
    → out ≡ take len (blocks (div_ceil len value_size))
output_whole blocks out index len size value_size positive same_size is_count long written =
    let cover : len ≤ div_ceil len size * size = blocks_cover len size positive in
    let reach : index * size ≡ div_ceil len size * size = ap (λ (n : ℕ). n * size) is_count in
    sym (take_all (index * size) out (omega arith)) ∙ written
    ∙ ap (λ (n : ℕ). take n (blocks index)) long
    ∙ ap (λ (n : ℕ). take len (blocks n)) (is_count ∙ ap (div_ceil len) same_size)
