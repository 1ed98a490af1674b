-- The families whose XOF repeats three bytes are lawful: proofs that `impl`s cite, and no definitions.
use Rattle.std.proofs.Common.{◌≡◌, ℕ, ◌*◌, ◌<◌, ◌∙◌, List, [], ◌∷◌, refl, ap₂, arith, zero, suc, ◌+◌, length-append}
use Rattle.std.specs.List.{flat_map, range_with_len}
use Rattle.std.proofs.lemmas.List.Elements.{All-append, All-cons, All-nil}
use Rattle.kem_hash.specs.Family.{AreBytes, IsLawful}
use Rattle.kem_hash.specs.private.Sha2Laws.{sha2_family-is_lawful}
use Rattle.hash_families.specs.Repeating.{repeating_family}

repeated-are_bytes : (bytes : List ℕ) → AreBytes 3 bytes → (a n : ℕ) → AreBytes (3 * n) (flat_map (λ i. bytes) (range_with_len a n))
repeated-are_bytes bytes are a zero = record { size = refl; each = All-nil (λ x. x < 256) }
repeated-are_bytes bytes are a (suc n) =
    let rest : AreBytes (3 * n) (flat_map (λ i. bytes) (range_with_len (a + 1) n)) = repeated-are_bytes bytes are (a + 1) n in
    record {
      size = length-append bytes (flat_map (λ i. bytes) (range_with_len (a + 1) n)) ∙ ap₂ (λ (i j : ℕ). i + j) are.size rest.size ∙ omega arith;
      each = All-append (λ x. x < 256) bytes (flat_map (λ i. bytes) (range_with_len (a + 1) n)) are.each rest.each;
    }

pub repeating_family-is_lawful : (bytes : List ℕ) → AreBytes 3 bytes → IsLawful (repeating_family bytes)
repeating_family-is_lawful bytes are = record {
  g_is = sha2_family-is_lawful.g_is;
  h_is = sha2_family-is_lawful.h_is;
  j_is = sha2_family-is_lawful.j_is;
  prf_is = sha2_family-is_lawful.prf_is;
  xof_is = λ rho a b. repeated-are_bytes bytes are 0 896;
}

-- three numbers below 256
pub three_bytes : (x y z : ℕ) → x < 256 → y < 256 → z < 256 → AreBytes 3 (x ∷ y ∷ z ∷ [])
three_bytes x y z hx hy hz = record {
  size = refl;
  each = All-cons (λ x. x < 256) x (y ∷ z ∷ []) hx (All-cons (λ x. x < 256) y (z ∷ []) hy (All-cons (λ x. x < 256) z [] hz (All-nil (λ x. x < 256))));
}
