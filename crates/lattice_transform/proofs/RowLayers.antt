-- Layers over rows, and the layers of the transform that they make.
use Rattle.std.proofs.Common.{◌≡◌, ◌≢◌, ℕ, zero, suc, ◌+◌, ◌-◌, ◌*◌, ◌/◌, ◌%◌, ◌<◌, ◌≤◌, List, length, get_or, map, refl, sym, ap, ap₂, ◌∙◌, inl, inr, arith}
use Rattle.std.specs.List.{range_with_len}
use Rattle.std.proofs.lemmas.Bool.{cases_eq}
use Rattle.std.proofs.lemmas.List.{ext_get_or}
use Rattle.module_lattice.specs.Ring.{butterfly}
use Rattle.lattice_transform.specs.Layers.{butterflies, first_place, inverse_butterflies, inverse_butterfly, inverse_layer, layer, zeta}
use Rattle.lattice_transform.specs.private.Rows.{across, first_in_rows, inverse_row_butterflies, place_back, place_of_zeta, row_butterflies, transposed, zeta_number}
use Rattle.lattice_transform.proofs.Across.{length-transposed, transposed-at, transposed-twice}
use Rattle.lattice_transform.proofs.Butterflies.{AreApart, Stage, Step, all_stages}
use Rattle.lattice_transform.proofs.Groups.{are-apart, both_sum, difference_part, sum_part, turned_difference}
use Rattle.lattice_transform.proofs.Stages.{back-stage, layer-stage, length-back, length-layer}
use Rattle.lattice_transform.proofs.Tables.{from_table}

-- ---- layers that join whole rows: those whose numbers stand m apart

record AreLayers (half m : ℕ) : Type 0 where
  apart : 16 * half ≡ m
  first : map (first_in_rows half) (range_with_len 0 128) ≡ map (first_place m) (range_with_len 0 128)
  zetas : map (λ k. zeta_number (place_of_zeta half 0 k)) (range_with_len 0 128) ≡ map (λ k. 128 / m + k / m) (range_with_len 0 128)
  back : map (λ k. zeta_number (place_back half 0 k)) (range_with_len 0 128) ≡ map (λ k. 2 * (128 / m) - 1 - k / m) (range_with_len 0 128)

rows_128 : AreLayers 8 128
rows_128 = record { apart = refl; first = refl; zetas = refl; back = refl }

rows_64 : AreLayers 4 64
rows_64 = record { apart = refl; first = refl; zetas = refl; back = refl }

rows_32 : AreLayers 2 32
rows_32 = record { apart = refl; first = refl; zetas = refl; back = refl }

rows_16 : AreLayers 1 16
rows_16 = record { apart = refl; first = refl; zetas = refl; back = refl }

first-at : (half m k : ℕ) → AreLayers half m → k < 128 → first_in_rows half k ≡ first_place m k
first-at half m k are inside = from_table (first_in_rows half) (first_place m) 0 128 k are.first (omega arith) (omega arith)

second-at : (half m k : ℕ) → AreLayers half m → k < 128 → first_in_rows half k + 16 * half ≡ first_place m k + m
second-at half m k are inside = ap₂ (λ (a b : ℕ). a + b) (first-at half m k are inside) are.apart

by-rows : (half m : ℕ) (f : List ℕ) → AreLayers half m → (n : ℕ) → n ≤ 128 → row_butterflies half 0 n f ≡ butterflies m n f
unfolding row_butterflies butterflies
by-rows half m f are zero low = refl
by-rows half m f are (suc n) low =
    ap₂ (λ i j. butterfly 3329 i j (zeta (zeta_number (place_of_zeta half 0 n))) (row_butterflies half 0 n f))
    (first-at half m n are (omega arith)) (second-at half m n are (omega arith))
    ∙ ap₂ (λ z v. butterfly 3329 (first_place m n) (first_place m n + m) (zeta z) v)
    (from_table (λ k. zeta_number (place_of_zeta half 0 k)) (λ k. 128 / m + k / m) 0 128 n are.zetas (omega arith) (omega arith))
    (by-rows half m f are n (omega arith))

back-by-rows : (half m : ℕ) (f : List ℕ) → AreLayers half m → (n : ℕ) → n ≤ 128 → inverse_row_butterflies half 0 n f ≡ inverse_butterflies m n f
unfolding inverse_row_butterflies inverse_butterflies
back-by-rows half m f are zero low = refl
back-by-rows half m f are (suc n) low =
    ap₂ (λ i j. inverse_butterfly i j (zeta (zeta_number (place_back half 0 n))) (inverse_row_butterflies half 0 n f))
    (first-at half m n are (omega arith)) (second-at half m n are (omega arith))
    ∙ ap₂ (λ z v. inverse_butterfly (first_place m n) (first_place m n + m) (zeta z) v)
    (from_table (λ k. zeta_number (place_back half 0 k)) (λ k. 2 * (128 / m) - 1 - k / m) 0 128 n are.back (omega arith) (omega arith))
    (back-by-rows half m f are n (omega arith))

pub four-layers : (f : List ℕ)
    → row_butterflies 1 0 128 (row_butterflies 2 0 128 (row_butterflies 4 0 128 (row_butterflies 8 0 128 f))) ≡ layer 16 (layer 32 (layer 64 (layer 128 f)))
four-layers f =
    by-rows 1 16 (row_butterflies 2 0 128 (row_butterflies 4 0 128 (row_butterflies 8 0 128 f))) rows_16 128 (omega arith)
    ∙ ap (layer 16) (by-rows 2 32 (row_butterflies 4 0 128 (row_butterflies 8 0 128 f)) rows_32 128 (omega arith)
    ∙ ap (layer 32) (by-rows 4 64 (row_butterflies 8 0 128 f) rows_64 128 (omega arith)
    ∙ ap (layer 64) (by-rows 8 128 f rows_128 128 (omega arith))))

pub four-layers-back : (f : List ℕ)
    → inverse_row_butterflies 8 0 128 (inverse_row_butterflies 4 0 128 (inverse_row_butterflies 2 0 128 (inverse_row_butterflies 1 0 128 f)))
    ≡ inverse_layer 128 (inverse_layer 64 (inverse_layer 32 (inverse_layer 16 f)))
four-layers-back f =
    back-by-rows 8 128 (inverse_row_butterflies 4 0 128 (inverse_row_butterflies 2 0 128 (inverse_row_butterflies 1 0 128 f))) rows_128 128 (omega arith)
    ∙ ap (inverse_layer 128) (back-by-rows 4 64 (inverse_row_butterflies 2 0 128 (inverse_row_butterflies 1 0 128 f)) rows_64 128 (omega arith)
    ∙ ap (inverse_layer 64) (back-by-rows 2 32 (inverse_row_butterflies 1 0 128 f) rows_32 128 (omega arith)
    ∙ ap (inverse_layer 32) (back-by-rows 1 16 f rows_16 128 (omega arith))))

-- ---- layers that join numbers of one row, as rows of columns

-- which butterfly of the layer is butterfly k
abbrev standing : ℕ → ℕ
standing k = 8 * (k % 16) + k / 16

-- which butterfly has number q, and whether as its second
abbrev butterfly_at : ℕ → ℕ → ℕ
butterfly_at half q = 16 * (q / 16 / (2 * half) * half + q / 16 % half) + q % 16

abbrev side_of : ℕ → ℕ → ℕ
side_of half q = q / 16 / half % 2

record AreColumns (half : ℕ) : Type 0 where
  first : map (λ k. across (first_in_rows half k)) (range_with_len 0 128) ≡ map (λ k. first_place half (standing k)) (range_with_len 0 128)
  second : map (λ k. across (first_in_rows half k + 16 * half)) (range_with_len 0 128) ≡ map (λ k. first_place half (standing k) + half) (range_with_len 0 128)
  zetas : map (λ k. zeta_number (place_of_zeta half 1 k)) (range_with_len 0 128) ≡ map (λ k. 128 / half + standing k / half) (range_with_len 0 128)
  back : map (λ k. zeta_number (place_back half 1 k)) (range_with_len 0 128) ≡ map (λ k. 2 * (128 / half) - 1 - standing k / half) (range_with_len 0 128)
  whole : map (λ q. first_in_rows half (butterfly_at half q) + 16 * half * side_of half q) (range_with_len 0 256) ≡ map (λ q. q) (range_with_len 0 256)
  inside : map (λ q. butterfly_at half q / 128) (range_with_len 0 256) ≡ map (λ q. 0) (range_with_len 0 256)
  apart : AreApart (first_in_rows half) (λ k. first_in_rows half k + 16 * half)

apart-of : (half m : ℕ) → AreLayers half m → AreApart (first_place m) (λ k. first_place m k + m) → AreApart (first_in_rows half) (λ k. first_in_rows half k + 16 * half)
apart-of half m are apart = record {
  first_inside = λ k k_inside. omega (arith, first-at half m k are k_inside, apart.first_inside k k_inside);
  second_inside = λ k k_inside. omega (arith, second-at half m k are k_inside, apart.second_inside k k_inside);
  firsts = λ k l k_inside l_inside same. apart.firsts k l k_inside l_inside (sym (first-at half m k are k_inside) ∙ same ∙ first-at half m l are l_inside);
  seconds = λ k l k_inside l_inside same. apart.seconds k l k_inside l_inside (sym (second-at half m k are k_inside) ∙ same ∙ second-at half m l are l_inside);
  both = λ k l k_inside l_inside same. apart.both k l k_inside l_inside (sym (first-at half m k are k_inside) ∙ same ∙ second-at half m l are l_inside);
}

columns_8 : AreColumns 8
columns_8 = record {
  first = refl;
  second = refl;
  zetas = refl;
  back = refl;
  whole = refl;
  inside = refl;
  apart = apart-of 8 128 rows_128 (are-apart 128 1 (omega arith) refl);
}

columns_4 : AreColumns 4
columns_4 = record {
  first = refl;
  second = refl;
  zetas = refl;
  back = refl;
  whole = refl;
  inside = refl;
  apart = apart-of 4 64 rows_64 (are-apart 64 2 (omega arith) refl);
}

columns_2 : AreColumns 2
columns_2 = record {
  first = refl;
  second = refl;
  zetas = refl;
  back = refl;
  whole = refl;
  inside = refl;
  apart = apart-of 2 32 rows_32 (are-apart 32 4 (omega arith) refl);
}

below_128 : (k : ℕ) → k / 128 ≡ 0 → k < 128
below_128 k none = omega arith

no_more : (a b : ℕ) → a + b * 0 ≡ a
no_more a b = omega arith

once_more : (a b : ℕ) → a + b * 1 ≡ a + b
once_more a b = omega arith

one_side : (n : ℕ) → n % 2 ≢ 0 → n % 2 ≡ 1
one_side n other = omega arith

-- what stands in both orders at a place of butterfly k
module _ (half : ℕ) (are : AreColumns half) (z zc : ℕ → ℕ) (turn : (k : ℕ) → k < 128 → zc k ≡ z (standing k)) (f : List ℕ) where
  made-at : (p : Step) (k : ℕ) → k < 128
      → p (zc k) (get_or (transposed f) (first_in_rows half k) 0) (get_or (transposed f) (first_in_rows half k + 16 * half) 0)
      ≡ p (z (standing k)) (get_or f (first_place half (standing k)) 0) (get_or f (first_place half (standing k) + half) 0)
  made-at p k inside =
      ap₂ (λ a b. p (zc k) a b)
      (transposed-at f (first_in_rows half k) (are.apart.first_inside k inside)
      ∙ ap (λ (i : ℕ). get_or f i 0) (from_table (λ k. across (first_in_rows half k)) (λ k. first_place half (standing k)) 0 128 k are.first (omega arith) (omega arith)))
      (transposed-at f (first_in_rows half k + 16 * half) (are.apart.second_inside k inside)
      ∙ ap (λ (i : ℕ). get_or f i 0) (from_table (λ k. across (first_in_rows half k + 16 * half)) (λ k. first_place half (standing k) + half) 0 128 k are.second (omega arith) (omega arith)))
      ∙ ap (λ (z : ℕ). p z (get_or f (first_place half (standing k)) 0) (get_or f (first_place half (standing k) + half) 0)) (turn k inside)

  module _ (p r : Step) (v w : List ℕ) (by_layer : Stage p r (first_place half) (λ k. first_place half k + half) z f 128 v)
      (by_columns : Stage p r (first_in_rows half) (λ k. first_in_rows half k + 16 * half) zc (transposed f) 128 w) where
    at-first : (k q : ℕ) → k < 128 → q < 256 → q ≡ first_in_rows half k → get_or w q 0 ≡ get_or (transposed v) q 0
    at-first k q inside within here =
        ap (λ (q : ℕ). get_or w q 0) here
        ∙ by_columns.first_done k inside inside
        ∙ made-at p k inside
        ∙ sym (by_layer.first_done (standing k) (omega arith) (omega arith))
        ∙ ap (λ (i : ℕ). get_or v i 0)
        (sym (from_table (λ k. across (first_in_rows half k)) (λ k. first_place half (standing k)) 0 128 k are.first (omega arith) (omega arith)) ∙ ap across (sym here))
        ∙ sym (transposed-at v q within)

    at-second : (k q : ℕ) → k < 128 → q < 256 → q ≡ first_in_rows half k + 16 * half → get_or w q 0 ≡ get_or (transposed v) q 0
    at-second k q inside within here =
        ap (λ (q : ℕ). get_or w q 0) here
        ∙ by_columns.second_done k inside inside
        ∙ made-at r k inside
        ∙ sym (by_layer.second_done (standing k) (omega arith) (omega arith))
        ∙ ap (λ (i : ℕ). get_or v i 0)
        (sym (from_table (λ k. across (first_in_rows half k + 16 * half)) (λ k. first_place half (standing k) + half) 0 128 k are.second (omega arith) (omega arith)) ∙ ap across (sym here))
        ∙ sym (transposed-at v q within)

    at-place : (q : ℕ) → q < 256 → get_or w q 0 ≡ get_or (transposed v) q 0
    at-place q within =
        let k : ℕ = butterfly_at half q in
        let none : k / 128 ≡ 0 = from_table (λ q. butterfly_at half q / 128) (λ q. 0) 0 256 q are.inside (omega arith) (omega arith) in
        let inside : k < 128 = below_128 k none in
        let is : first_in_rows half k + 16 * half * side_of half q ≡ q =
        from_table (λ q. first_in_rows half (butterfly_at half q) + 16 * half * side_of half q) (λ q. q) 0 256 q are.whole (omega arith) (omega arith) in
        elim (cases_eq (side_of half q) 0) [
          | inl first ↦ at-first k q inside within (sym is ∙ ap (λ (s : ℕ). first_in_rows half k + 16 * half * s) first ∙ no_more (first_in_rows half k) (16 * half))
          | inr other ↦ at-second k q inside within
              (sym is ∙ ap (λ (s : ℕ). first_in_rows half k + 16 * half * s) (one_side (q / 16 / half) other) ∙ once_more (first_in_rows half k) (16 * half))
        ]

    transposed-stage : w ≡ transposed v
    transposed-stage = ext_get_or 0 w (transposed v) (by_columns.size ∙ sym (length-transposed v)) (λ q inside. at-place q (omega (arith, inside, by_columns.size)))

-- ---- three layers of columns

by-columns : (half t : ℕ) (f : List ℕ) → AreColumns half → 1 ≤ half → half * t ≡ 128 → length f ≡ 256
    → row_butterflies half 1 128 (transposed f) ≡ transposed (layer half f)
unfolding row_butterflies
by-columns half t f are positive whole long =
    transposed-stage half are (λ k. zeta (128 / half + k / half)) (λ k. zeta (zeta_number (place_of_zeta half 1 k)))
    (λ k inside. ap zeta (from_table (λ k. zeta_number (place_of_zeta half 1 k)) (λ k. 128 / half + standing k / half) 0 128 k are.zetas (omega arith) (omega arith)))
    f (sum_part 3329) (difference_part 3329) (layer half f) (row_butterflies half 1 128 (transposed f))
    (layer-stage half t f positive whole long)
    (all_stages (sum_part 3329) (difference_part 3329) (first_in_rows half) (λ k. first_in_rows half k + 16 * half)
    (λ k. zeta (zeta_number (place_of_zeta half 1 k))) (λ n. row_butterflies half 1 n (transposed f)) are.apart (length-transposed f) (λ n. refl) 128 (omega arith))

back-by-columns : (half t : ℕ) (f : List ℕ) → AreColumns half → 1 ≤ half → half * t ≡ 128 → length f ≡ 256
    → inverse_row_butterflies half 1 128 (transposed f) ≡ transposed (inverse_layer half f)
unfolding inverse_row_butterflies
back-by-columns half t f are positive whole long =
    transposed-stage half are (λ k. zeta (2 * (128 / half) - 1 - k / half)) (λ k. zeta (zeta_number (place_back half 1 k)))
    (λ k inside. ap zeta (from_table (λ k. zeta_number (place_back half 1 k)) (λ k. 2 * (128 / half) - 1 - standing k / half) 0 128 k are.back (omega arith) (omega arith)))
    f (both_sum 3329) (turned_difference 3329) (inverse_layer half f) (inverse_row_butterflies half 1 128 (transposed f))
    (back-stage half t f positive whole long)
    (all_stages (both_sum 3329) (turned_difference 3329) (first_in_rows half) (λ k. first_in_rows half k + 16 * half)
    (λ k. zeta (zeta_number (place_back half 1 k))) (λ n. inverse_row_butterflies half 1 n (transposed f)) are.apart (length-transposed f) (λ n. refl) 128 (omega arith))

pub three-layers : (f : List ℕ) → length f ≡ 256
    → transposed (row_butterflies 2 1 128 (row_butterflies 4 1 128 (row_butterflies 8 1 128 (transposed f)))) ≡ layer 2 (layer 4 (layer 8 f))
three-layers f long =
    let one : length (layer 8 f) ≡ 256 = length-layer 8 16 f (omega arith) refl long in
    let two : length (layer 4 (layer 8 f)) ≡ 256 = length-layer 4 32 (layer 8 f) (omega arith) refl one in
    let three : length (layer 2 (layer 4 (layer 8 f))) ≡ 256 = length-layer 2 64 (layer 4 (layer 8 f)) (omega arith) refl two in
    ap (λ v. transposed (row_butterflies 2 1 128 (row_butterflies 4 1 128 v))) (by-columns 8 16 f columns_8 (omega arith) refl long)
    ∙ ap (λ v. transposed (row_butterflies 2 1 128 v)) (by-columns 4 32 (layer 8 f) columns_4 (omega arith) refl one)
    ∙ ap transposed (by-columns 2 64 (layer 4 (layer 8 f)) columns_2 (omega arith) refl two)
    ∙ transposed-twice (layer 2 (layer 4 (layer 8 f))) three

pub three-layers-back : (f : List ℕ) → length f ≡ 256
    → transposed (inverse_row_butterflies 8 1 128 (inverse_row_butterflies 4 1 128 (inverse_row_butterflies 2 1 128 (transposed f))))
    ≡ inverse_layer 8 (inverse_layer 4 (inverse_layer 2 f))
three-layers-back f long =
    let one : length (inverse_layer 2 f) ≡ 256 = length-back 2 64 f (omega arith) refl long in
    let two : length (inverse_layer 4 (inverse_layer 2 f)) ≡ 256 = length-back 4 32 (inverse_layer 2 f) (omega arith) refl one in
    let three : length (inverse_layer 8 (inverse_layer 4 (inverse_layer 2 f))) ≡ 256 = length-back 8 16 (inverse_layer 4 (inverse_layer 2 f)) (omega arith) refl two in
    ap (λ v. transposed (inverse_row_butterflies 8 1 128 (inverse_row_butterflies 4 1 128 v))) (back-by-columns 2 64 f columns_2 (omega arith) refl long)
    ∙ ap (λ v. transposed (inverse_row_butterflies 8 1 128 v)) (back-by-columns 4 32 (inverse_layer 2 f) columns_4 (omega arith) refl one)
    ∙ ap transposed (back-by-columns 8 16 (inverse_layer 4 (inverse_layer 2 f)) columns_8 (omega arith) refl two)
    ∙ transposed-twice (inverse_layer 8 (inverse_layer 4 (inverse_layer 2 f))) three
