-- Lists that a loop makes item by item.
use Rattle.std.proofs.Common.{◌≡◌, ℕ, suc, ◌+◌, ◌-◌, ◌*◌, ◌<◌, ◌≤◌, List, [], ◌∷◌, ◌++◌, Option, None, Some, length, map, get_or, take, slice_get, refl, sym, ap, ap₂, ◌∙◌, arith, append-nil, mul-le-mul_left}
use Rattle.std.specs.List.{flat_map, range_with_len}
use Rattle.std.specs.Option.{option_map}
use Rattle.std.proofs.lemmas.Grind.{flat_map-append}
use Rattle.std.proofs.lemmas.List.{length-map, map-append, take_all, take_more}
use Rattle.std.proofs.lemmas.List.FromFn.{length-range_with_len, map-range_with_len_more}
use Rattle.std.proofs.lemmas.Option.{get_or_from_slice_get}
use Rattle.std.proofs.lemmas.Slice.{take-put_mid}
use borrow.Rule.Slice.PartMut.{put_mid}
use Rattle.kem_hash.proofs.Joined.{range_with_len-add}
use Rattle.ml_kem.specs.Matrix.{all_or_none}

-- what `slice_get` gives is what is read
pub read : {X : Type 0} (xs : List X) (i : ℕ) (x : X) → slice_get xs i ≡ Some x → x ≡ get_or xs i x
read xs i x at = sym (get_or_from_slice_get xs i x x at)

-- one item more of a list
pub take-more : {X : Type 0} (xs : List X) (i : ℕ) (x : X) → i < length xs → x ≡ get_or xs i x → take (i + 1) xs ≡ take i xs ++ x ∷ []
take-more xs i x within at = take_more xs i x within ∙ ap (λ y. take i xs ++ y ∷ []) (sym at)

-- the next piece has room
pub piece-room : (size n i : ℕ) → i < n → size * i + size ≤ size * n
piece-room size n i within = omega (arith, mul-le-mul_left size within)

-- a map of a list
pub map-more : {X Y : Type 0} (f : X → Y) (xs : List X) (out : List Y) (i : ℕ) (x : X) → i < length xs → x ≡ get_or xs i x
    → out ≡ map f (take i xs) → out ++ f x ∷ [] ≡ map f (take (i + 1) xs)
map-more f xs out i x within at made =
    ap (λ o. o ++ f x ∷ []) made ∙ sym (ap (map f) (take-more xs i x within at) ∙ map-append f (take i xs) (x ∷ []))

pub map-all : {X Y : Type 0} (f : X → Y) (xs : List X) (out : List Y) (i : ℕ) → length xs ≤ i → out ≡ map f (take i xs) → out ≡ map f xs
map-all f xs out i all made = made ∙ ap (map f) (take_all i xs all)

-- values by their numbers
pub values-more : {Y : Type 0} (f : ℕ → Y) (out : List Y) (a n j : ℕ) → j ≡ a + n → out ≡ map f (range_with_len a n)
    → out ++ f j ∷ [] ≡ map f (range_with_len a (n + 1))
values-more f out a n j at made = ap (λ o. o ++ f j ∷ []) made ∙ sym (map-range_with_len_more f a n j (sym at))

pub values-all : {Y : Type 0} (f : ℕ → Y) (out : List Y) (a n m : ℕ) → n ≡ m → out ≡ map f (range_with_len a n) → out ≡ map f (range_with_len a m)
values-all f out a n m all made = made ∙ ap (λ (k : ℕ). map f (range_with_len a k)) all

pub length-values : {Y : Type 0} (f : ℕ → Y) (out : List Y) (a n : ℕ) → out ≡ map f (range_with_len a n) → length out ≡ n
length-values f out a n made = ap length made ∙ length-map (range_with_len a n) f ∙ length-range_with_len a n

-- bytes that are written piece by piece
pub piece-written : {X : Type 0} (f : X → List ℕ) (size i k : ℕ) (xs : List X) (x : X) (out ys : List ℕ) → i < length xs → x ≡ get_or xs i x
    → size * i + size ≤ length out → length ys ≡ size → ys ≡ f x → take (size * i) out ≡ flat_map f (take i xs)
    → take (size * (i + 1)) (put_mid (size * i) k out ys) ≡ flat_map f (take (i + 1) xs)
piece-written f size i k xs x out ys within at room long is before =
    take-put_mid (size * i) k out ys (size * (i + 1)) (omega arith) (omega arith)
    ∙ ap₂ (λ (a b : List ℕ). a ++ b) before (is ∙ sym (append-nil (f x)))
    ∙ sym (ap (flat_map f) (take-more xs i x within at) ∙ flat_map-append f (take i xs) (x ∷ []))

pub pieces-written : {X : Type 0} (f : X → List ℕ) (size i : ℕ) (xs : List X) (out : List ℕ) → length out ≡ size * length xs → i ≡ length xs
    → take (size * i) out ≡ flat_map f (take i xs) → out ≡ flat_map f xs
pieces-written f size i xs out long all made =
    let end : size * i ≡ size * length xs = ap (λ (k : ℕ). size * k) all in
    sym (take_all (size * i) out (omega arith)) ∙ made ∙ ap (flat_map f) (take_all i xs (omega arith))

-- values of which each is there
mapped-some : {X : Type 0} (x : X) (o : Option (List X)) (out : List X) → option_map (λ ys. x ∷ ys) o ≡ Some out → (rest : List X) × (o ≡ Some rest) × (out ≡ x ∷ rest)
mapped-some x None out is = absurd (cc)
mapped-some x (Some rest) out is = let same : out ≡ x ∷ rest = cc in (rest, refl, same)

all_or_none-push : {X : Type 0} (xs : List (Option X)) (out : List X) (x : X) → all_or_none xs ≡ Some out → all_or_none (xs ++ Some x ∷ []) ≡ Some (out ++ x ∷ [])
all_or_none-push [] out x is = let none : [] ≡ out = cc in ap (λ o. Some (o ++ x ∷ [])) none
all_or_none-push (None ∷ xs) out x is = absurd (cc)
all_or_none-push (Some y ∷ xs) out x is =
    let parts = mapped-some y (all_or_none xs) out is in
    ap (option_map (λ ys. y ∷ ys)) (all_or_none-push xs parts.0 x parts.1) ∙ ap (λ o. Some (o ++ x ∷ [])) (sym parts.2)

all_or_none-none : {X : Type 0} (xs ys : List (Option X)) → all_or_none (xs ++ None ∷ ys) ≡ None
all_or_none-none [] ys = refl
all_or_none-none (None ∷ xs) ys = refl
all_or_none-none (Some x ∷ xs) ys = ap (option_map (λ zs. x ∷ zs)) (all_or_none-none xs ys)

length-all_or_none : {X : Type 0} (xs : List (Option X)) (out : List X) → all_or_none xs ≡ Some out → length out ≡ length xs
length-all_or_none [] out is = let none : [] ≡ out = cc in ap length (sym none)
length-all_or_none (None ∷ xs) out is = absurd (cc)
length-all_or_none (Some x ∷ xs) out is =
    let parts = mapped-some x (all_or_none xs) out is in ap length parts.2 ∙ ap suc (length-all_or_none xs parts.0 parts.1)

-- one value more is there
pub collected-more : {X : Type 0} (f : ℕ → Option X) (n : ℕ) (out : List X) (x : X) → f n ≡ Some x
    → all_or_none (map f (range_with_len 0 n)) ≡ Some out → all_or_none (map f (range_with_len 0 (n + 1))) ≡ Some (out ++ x ∷ [])
collected-more f n out x here made =
    ap all_or_none (map-range_with_len_more f 0 n n (omega arith) ∙ ap (λ o. map f (range_with_len 0 n) ++ o ∷ []) here)
    ∙ all_or_none-push (map f (range_with_len 0 n)) out x made

-- one value is not there
pub collected-none : {X : Type 0} (f : ℕ → Option X) (i n : ℕ) → i < n → f i ≡ None → all_or_none (map f (range_with_len 0 n)) ≡ None
collected-none f i n within here =
    let parts : n ≡ i + suc (n - i - 1) = omega arith in
    let start : 0 + i ≡ i = omega arith in
    ap all_or_none (ap (λ (k : ℕ). map f (range_with_len 0 k)) parts ∙ ap (map f) (range_with_len-add 0 i (suc (n - i - 1)))
    ∙ map-append f (range_with_len 0 i) (range_with_len (0 + i) (suc (n - i - 1)))
    ∙ ap (λ o. map f (range_with_len 0 i) ++ o ∷ map f (range_with_len (0 + i + 1) (n - i - 1))) (ap f start ∙ here))
    ∙ all_or_none-none (map f (range_with_len 0 i)) (map f (range_with_len (0 + i + 1) (n - i - 1)))

-- all values are there
pub collected-all : {X : Type 0} (f : ℕ → Option X) (n m : ℕ) (out : List X) → n ≡ m → all_or_none (map f (range_with_len 0 n)) ≡ Some out
    → all_or_none (map f (range_with_len 0 m)) ≡ Some out
collected-all f n m out all made = sym (ap (λ (k : ℕ). all_or_none (map f (range_with_len 0 k))) all) ∙ made

pub length-collected : {X : Type 0} (f : ℕ → Option X) (n : ℕ) (out : List X) → all_or_none (map f (range_with_len 0 n)) ≡ Some out → length out ≡ n
length-collected f n out made =
    length-all_or_none (map f (range_with_len 0 n)) out made ∙ length-map (range_with_len 0 n) f ∙ length-range_with_len 0 n
