-- The last block of a message: its bytes, the bits behind it and the padding.
use Rattle.std.proofs.Common.{◌≡◌, ℕ, zero, suc, ◌+◌, ◌-◌, ◌*◌, ◌/◌, ◌%◌, ◌<◌, ◌≤◌, inl, inr, List, [], ◌∷◌, ◌++◌, length, take, drop, set, get_or, replicate, refl, sym, ap, ◌∙◌, arith, length-append}
use Rattle.std.specs.Prelude.{bit_xor}
use Rattle.std.proofs.lemmas.List.{append_assoc, drop-replicate, length-replicate, replicate-append-replicate}
use Rattle.std.proofs.lemmas.Nat.{mod-mul-add}
use Rattle.std.proofs.Math.Nat.{div-eq_of_eq-mul_left, mod-eq_of_lt}
use Rattle.std.proofs.Math.Seq.{get_or-append_seam, set-append_seam, take-append-add}
use Rattle.sha3.specs.Keccak.{keccak_f}
use Rattle.sha3.specs.Pieces.{Absorbs, Held, IsDomain}
use Rattle.sha3.specs.Sha3.{hash_suffix, xof_suffix}
use Rattle.sha3.specs.Sponge.{absorbed_whole, added, pad10star1, packed, padded}
use Rattle.sha3.proofs.Absorbing.{absorbed-more}

-- the bytes behind a message that leaves k of its last block: the domain's bits, and the last bit
abbrev pub pad_bytes : ℕ → ℕ → List ℕ
pad_bytes domain zero = []
pad_bytes domain (suc zero) = bit_xor domain 128 ∷ []
pad_bytes domain (suc (suc j)) = domain ∷ replicate j 0 ++ 128 ∷ []

-- eight zeros are a byte of zeros
packed-zeros : (j : ℕ) (bits : List ℕ) → packed (replicate (8 * j) 0 ++ bits) ≡ replicate j 0 ++ packed bits
packed-zeros zero bits = refl
packed-zeros (suc j) bits =
    let more : 8 * suc j ≡ 8 + 8 * j = omega arith in
    let split : replicate (8 * suc j) 0 ++ bits ≡ replicate 8 0 ++ (replicate (8 * j) 0 ++ bits) =
    ap (λ (n : ℕ). replicate n 0 ++ bits) more
    ∙ ap (λ (nulls : List ℕ). nulls ++ bits) (sym (replicate-append-replicate 8 (8 * j) 0))
    ∙ append_assoc (replicate 8 0) (replicate (8 * j) 0) bits in
    ap packed split ∙ ap (λ (rest : List ℕ). 0 ∷ rest) (packed-zeros j bits)

-- zeros around whole bytes of zeros, and a last bit
nulls-split : (a j : ℕ) → ◌≡◌ {A = List ℕ} (replicate (a + (8 * j + 7)) 0 ++ 1 ∷ []) (replicate a 0 ++ (replicate (8 * j) 0 ++ (replicate 7 0 ++ 1 ∷ [])))
nulls-split a j =
    ap (λ (nulls : List ℕ). nulls ++ 1 ∷ []) (sym (replicate-append-replicate a (8 * j + 7) 0))
    ∙ append_assoc (replicate a 0) (replicate (8 * j + 7) 0) (1 ∷ [])
    ∙ ap (λ (nulls : List ℕ). ◌++◌ {A = ℕ} (replicate a 0) (nulls ++ 1 ∷ [])) (sym (replicate-append-replicate (8 * j) 7 0))
    ∙ ap (λ (nulls : List ℕ). ◌++◌ {A = ℕ} (replicate a 0) nulls) (append_assoc (replicate (8 * j) 0) (replicate 7 0) (1 ∷ []))

-- the bits behind a message of SHA-3, of which its last block leaves k bytes
packed-hash : (k nulls : ℕ) → 1 ≤ k → nulls ≡ 8 * k - 4 → packed (hash_suffix ++ 1 ∷ replicate nulls 0 ++ 1 ∷ []) ≡ pad_bytes 0x06 k
packed-hash zero nulls least is = absurd (omega (arith, least))
packed-hash (suc zero) nulls least is = rw is refl
packed-hash (suc (suc j)) nulls least is =
    let count : nulls ≡ 5 + (8 * j + 7) = omega (arith, is) in
    let bits : replicate {A = ℕ} nulls 0 ++ 1 ∷ [] ≡ replicate 5 0 ++ (replicate (8 * j) 0 ++ (replicate 7 0 ++ 1 ∷ [])) =
    ap (λ (n : ℕ). replicate n 0 ++ 1 ∷ []) count ∙ nulls-split 5 j in
    ap (λ (rest : List ℕ). packed (0 ∷ 1 ∷ 1 ∷ rest)) bits ∙ ap (λ (rest : List ℕ). 6 ∷ rest) (packed-zeros j (replicate 7 0 ++ 1 ∷ []))

-- the same of SHAKE
packed-xof : (k nulls : ℕ) → 1 ≤ k → nulls ≡ 8 * k - 6 → packed (xof_suffix ++ 1 ∷ replicate nulls 0 ++ 1 ∷ []) ≡ pad_bytes 0x1F k
packed-xof zero nulls least is = absurd (omega (arith, least))
packed-xof (suc zero) nulls least is = rw is refl
packed-xof (suc (suc j)) nulls least is =
    let count : nulls ≡ 3 + (8 * j + 7) = omega (arith, is) in
    let bits : replicate {A = ℕ} nulls 0 ++ 1 ∷ [] ≡ replicate 3 0 ++ (replicate (8 * j) 0 ++ (replicate 7 0 ++ 1 ∷ [])) =
    ap (λ (n : ℕ). replicate n 0 ++ 1 ∷ []) count ∙ nulls-split 3 j in
    ap (λ (rest : List ℕ). packed (1 ∷ 1 ∷ 1 ∷ 1 ∷ 1 ∷ rest)) bits ∙ ap (λ (rest : List ℕ). 31 ∷ rest) (packed-zeros j (replicate 7 0 ++ 1 ∷ []))

-- how many zeros the padding has, where n blocks are whole and len bytes follow them
nulls-count : (rate n len s : ℕ) → len < rate → s ≤ 4
    → (8 * rate - (8 * (n * rate + len) + s + 2) % (8 * rate)) % (8 * rate) ≡ 8 * (rate - len) - (s + 2)
nulls-count rate n len s within few =
    let same : 8 * (n * rate + len) + s + 2 ≡ n * (8 * rate) + (8 * len + s + 2) = grind arith in
    let part : (8 * (n * rate + len) + s + 2) % (8 * rate) ≡ 8 * len + s + 2 =
    ap (λ (x : ℕ). x % (8 * rate)) same ∙ mod-mul-add n (8 * rate) (8 * len + s + 2) (omega arith) in
    let small : 8 * rate - (8 * len + s + 2) < 8 * rate = omega arith in
    ap (λ (x : ℕ). (8 * rate - x) % (8 * rate)) part ∙ mod-eq_of_lt small ∙ omega arith

-- the bytes behind a message of this length
pub packed-suffix : (rate n len domain : ℕ) (suffix message : List ℕ) → IsDomain domain suffix → len < rate → length message ≡ n * rate + len
    → packed (suffix ++ pad10star1 (8 * rate) (8 * length message + length suffix)) ≡ pad_bytes domain (rate - len)
packed-suffix rate n len domain suffix message (inl is) within size =
    rw (is.1, size, is.0) (packed-hash (rate - len) ((8 * rate - (8 * (n * rate + len) + 2 + 2) % (8 * rate)) % (8 * rate)) (omega arith) (nulls-count rate n len 2 within (omega arith)))
packed-suffix rate n len domain suffix message (inr is) within size =
    rw (is.1, size, is.0) (packed-xof (rate - len) ((8 * rate - (8 * (n * rate + len) + 4 + 2) % (8 * rate)) % (8 * rate)) (omega arith) (nulls-count rate n len 4 within (omega arith)))

length-pad_bytes : (domain k : ℕ) → length (pad_bytes domain k) ≡ k
length-pad_bytes domain zero = refl
length-pad_bytes domain (suc zero) = refl
length-pad_bytes domain (suc (suc j)) = ap suc (length-append (replicate j 0) (128 ∷ []) ∙ ap (λ (n : ℕ). n + 1) (length-replicate j 0) ∙ omega arith)

-- what is left of a block of zeros
pub rest-of-zeros : (len : ℕ) → len < 168 → drop {A = ℕ} len (replicate 168 0) ≡ 0 ∷ replicate (167 - len) 0
rest-of-zeros len within = drop-replicate len 168 0 ∙ (let more : 168 - len ≡ suc (167 - len) = omega arith in ap (λ (n : ℕ). replicate n 0) more)

-- the block that is written: the bytes that count, the domain and the last bit, over zeros
pub padded-block : (rate len domain : ℕ) (front rest block : List ℕ) → length front ≡ len → len < rate → rate ≤ 168
    → rest ≡ replicate (167 - len) 0
    → block ≡ set (set (front ++ 0 ∷ rest) len domain) (rate - 1) (bit_xor (get_or (set (front ++ 0 ∷ rest) len domain) (rate - 1) 0) 128)
    → take rate block ≡ front ++ pad_bytes domain (rate - len)
padded-block rate len domain front rest block size within most zeros is =
    let first : set (front ++ 0 ∷ rest) len domain ≡ front ++ domain ∷ rest =
    ap (λ (n : ℕ). set (front ++ 0 ∷ rest) n domain) (sym size) ∙ set-append_seam front 0 rest domain in
    let both : block ≡ set (front ++ domain ∷ rest) (rate - 1) (bit_xor (get_or (front ++ domain ∷ rest) (rate - 1) 0) 128) =
    is ∙ ap (λ (b : List ℕ). set b (rate - 1) (bit_xor (get_or b (rate - 1) 0) 128)) first in
    padded-by domain front rest block rate (rate - len) (omega (arith, size)) (omega arith) (omega (arith, size)) (zeros ∙ ap (λ (n : ℕ). replicate n 0) (omega (arith, size))) both
  where
    -- by how much of the block is left
    padded-by : (domain : ℕ) (front rest block : List ℕ) (rate k : ℕ) → rate ≡ length front + k → 1 ≤ k → rate ≤ 168
        → rest ≡ replicate (167 - length front) 0
        → block ≡ set (front ++ domain ∷ rest) (rate - 1) (bit_xor (get_or (front ++ domain ∷ rest) (rate - 1) 0) 128)
        → take rate block ≡ front ++ pad_bytes domain k
    padded-by domain front rest block rate zero whole least most zeros is = absurd (omega (arith, least))
    padded-by domain front rest block rate (suc zero) whole least most zeros is =
        let at : rate - 1 ≡ length front = omega (arith, whole) in
        let got : get_or (front ++ domain ∷ rest) (rate - 1) 0 ≡ domain = ap (λ (n : ℕ). get_or (front ++ domain ∷ rest) n 0) at ∙ get_or-append_seam front domain rest 0 in
        let made : block ≡ front ++ bit_xor domain 128 ∷ rest =
        is ∙ ap (λ (x : ℕ). set (front ++ domain ∷ rest) (rate - 1) (bit_xor x 128)) got
        ∙ ap (λ (n : ℕ). set (front ++ domain ∷ rest) n (bit_xor domain 128)) at ∙ set-append_seam front domain rest (bit_xor domain 128) in
        ap (take rate) made ∙ ap (λ (n : ℕ). take n (front ++ bit_xor domain 128 ∷ rest)) whole ∙ take-append-add front (bit_xor domain 128 ∷ rest) 1
    padded-by domain front rest block rate (suc (suc j)) whole least most zeros is =
        let middle : List ℕ = front ++ domain ∷ replicate j 0 in
        let behind : List ℕ = replicate (166 - length front - j) 0 in
        let count : 167 - length front ≡ j + suc (166 - length front - j) = omega (arith, whole) in
        let spread : front ++ domain ∷ rest ≡ middle ++ 0 ∷ behind =
        ap (λ (r : List ℕ). front ++ domain ∷ r) (zeros ∙ ap (λ (n : ℕ). replicate n 0) count ∙ sym (replicate-append-replicate j (suc (166 - length front - j)) 0))
        ∙ sym (append_assoc front (domain ∷ replicate j 0) (0 ∷ behind)) in
        let length_middle : length middle ≡ length front + suc j = length-append front (domain ∷ replicate j 0) ∙ ap (λ (n : ℕ). length front + suc n) (length-replicate j 0) in
        let at : rate - 1 ≡ length middle = omega (arith, whole, length_middle) in
        let got : get_or (middle ++ 0 ∷ behind) (rate - 1) 0 ≡ 0 = ap (λ (n : ℕ). get_or (middle ++ 0 ∷ behind) n 0) at ∙ get_or-append_seam middle 0 behind 0 in
        let made : block ≡ middle ++ 128 ∷ behind =
        is ∙ ap (λ (b : List ℕ). set b (rate - 1) (bit_xor (get_or b (rate - 1) 0) 128)) spread
        ∙ ap (λ (x : ℕ). set (middle ++ 0 ∷ behind) (rate - 1) (bit_xor x 128)) got
        ∙ ap (λ (n : ℕ). set (middle ++ 0 ∷ behind) n 128) at ∙ set-append_seam middle 0 behind 128 in
        let whole_middle : rate ≡ length middle + 1 = omega (arith, whole, length_middle) in
        ap (take rate) made ∙ ap (λ (n : ℕ). take n (middle ++ 128 ∷ behind)) whole_middle ∙ take-append-add middle (128 ∷ behind) 1
        ∙ append_assoc front (domain ∷ replicate j 0) (128 ∷ [])

-- the state that has absorbed the last block too
pub absorbed_whole-is : (rate domain : ℕ) (suffix m block : List ℕ) (held : Held) → IsDomain domain suffix → Absorbs rate held m → 0 < rate
    → block ≡ take held.len held.buffer ++ pad_bytes domain (rate - held.len)
    → keccak_f (added held.state block) ≡ absorbed_whole rate suffix m
unfolding Absorbs absorbed_whole padded
absorbed_whole-is rate domain suffix m block held of is positive made =
    let pad : packed (suffix ++ pad10star1 (8 * rate) (8 * length m + length suffix)) ≡ pad_bytes domain (rate - held.len) =
    packed-suffix rate is.0 held.len domain suffix m of is.2 is.1 in
    let more = absorbed-more rate held m (pad_bytes domain (rate - held.len)) block is
    (ap (λ (n : ℕ). held.len + n) (length-pad_bytes domain (rate - held.len)) ∙ omega (arith, is.2)) made in
    let blocks : length (m ++ pad_bytes domain (rate - held.len)) / rate ≡ suc more.0 = div-eq_of_eq-mul_left positive more.1 in
    rw (pad, blocks) more.2
