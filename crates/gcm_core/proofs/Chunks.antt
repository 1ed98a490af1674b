-- Sealing chunk by chunk: the stream and the hash of each chunk join those of the chunks before it.
use Rattle.std.proofs.Common.{◌≡◌, ℕ, ◌+◌, ◌*◌, ◌^◌, ◌<◌, ◌≤◌, List, ◌++◌, length, take, drop, ap, sym, ◌∙◌, arith}
use Rattle.std.proofs.lemmas.List.{length-take}
use Rattle.std.proofs.lemmas.Slice.{take-put_mid}
use borrow.Rule.Slice.PartMut.{put_mid}
use Rattle.gcm_core.specs.private.Counters.{counter_after}
use Rattle.gcm_core.specs.Gcm.{gctr_blocks}
use Rattle.gcm_core.specs.Ghash.{polynomials}
use Rattle.gcm_core.specs.private.Continued.{continued}
use Rattle.gcm_core.proofs.Hash.{continued-more}
use Rattle.gcm_core.proofs.Stream.{gctr_blocks-group}

-- one chunk more
pub chunks-step : (ciph : List ℕ → List ℕ) (h i k : ℕ) (icb counter next text0 text ys : List ℕ) (earlier sum more : ℕ) → 4096 * i + 4096 ≤ length text0 → k ≡ 4096 → length text ≡ length text0
    → h < 2 ^ 128 → earlier < 2 ^ 128 → drop (4096 * i) text ≡ drop (4096 * i) text0
    → take (4096 * i) text ≡ gctr_blocks ciph (256 * i) icb (take (4096 * i) text0) → counter ≡ counter_after (256 * i) icb
    → sum ≡ continued h earlier (polynomials (256 * i) (take (4096 * i) text)) → length ys ≡ k
    → ys ≡ gctr_blocks ciph 256 counter (take k (drop (4096 * i) text)) → next ≡ counter_after 256 counter → more ≡ continued h sum (polynomials 256 ys)
    → (drop (4096 * (i + 1)) (put_mid (4096 * i) k text ys) ≡ drop (4096 * (i + 1)) text0)
    × (take (4096 * (i + 1)) (put_mid (4096 * i) k text ys) ≡ gctr_blocks ciph (256 * (i + 1)) icb (take (4096 * (i + 1)) text0))
    × (next ≡ counter_after (256 * (i + 1)) icb)
    × (more ≡ continued h earlier (polynomials (256 * (i + 1)) (take (4096 * (i + 1)) (put_mid (4096 * i) k text ys))))
chunks-step ciph h i k icb counter next text0 text ys earlier sum more fits ek len lh le rest done ec held ly ey en em =
    let a : ℕ = 4096 * i in
    let p : ℕ = 256 * i in
    let n : 4096 * (i + 1) ≡ a + k = omega arith in
    let count : 256 * (i + 1) ≡ p + 256 = omega arith in
    let group = gctr_blocks-group ciph a k p 256 icb counter next text0 text ys (omega arith) (omega arith) len rest done ec ly ey en in
    let front : take (a + k) (put_mid a k text ys) ≡ take a text ++ ys = take-put_mid a k text ys (a + k) (omega arith) (omega arith) in
    let la : length (take a text) ≡ 16 * p = length-take a text ∙ omega arith in
    let total : more ≡ continued h earlier (polynomials (p + 256) (take (a + k) (put_mid a k text ys))) =
    em ∙ ap (λ (s : ℕ). continued h s (polynomials 256 ys)) held ∙ continued-more h earlier p 256 (take a text) ys lh le la
    ∙ ap (λ (z : List ℕ). continued h earlier (polynomials (p + 256) z)) (sym front) in
    rw (n, count) (group.0, group.1, group.2, total)
