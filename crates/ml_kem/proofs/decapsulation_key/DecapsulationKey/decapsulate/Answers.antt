use Rattle.std.proofs.Common.{◌≡◌, ◌≢◌, ℕ, ◌++◌, Bool, true≢false, List, Option, None, Vec, Global, drop, map, is_some, sym, ap, ap₂, ◌∙◌}
use Rattle.std.specs.Prelude.{if◌then◌else◌}
use Rattle.std.specs.Str.{bytes_eq}
use Rattle.std.proofs.lemmas.Result.{err_from_is_err_and}
use Rattle.kem_hash.specs.Family.{Family}
use Rattle.lattice_transform.specs.Transform.{inverse_transform}
use Rattle.ml_kem.specs.Encapsulation.{decaps, key_and_coins}
use Rattle.ml_kem.specs.Encryption.{decrypt, encrypt}
use Rattle.ml_kem.specs.Parameters.{Parameters}
use Rattle.ml_kem.specs.declared.error.KemError.TheVariants.{XofExhausted}
use Rattle.ml_kem.proofs.Meanings.{decaps-none, decaps-some, encrypt-none-from, not-exhausted, refused, same-error}
use Rattle.ml_kem.proofs.decapsulation_key.DecapsulationKey.decapsulate.Goals as goal

pub returns-in_err-again-clause-value : goal.returns-in_err-again-clause-value
returns-in_err-again-clause-value g c =
    let set : Parameters = g.P.ParameterSet.set in
    let family : Family = g.H.KemHash.family in
    let s : List (List ℕ) = map inverse_transform c.self.inside.s_hat in
    let ek : List ℕ = c.self.inside.ek in
    let m : List ℕ = c.in_ok-m.m in
    let text : List ℕ = c.args.c.now in
    let is_m : m ≡ decrypt set s text = c.in_ok-m.ensures ∙ ap (decrypt set s) c.as_slice.ensures.value in
    let is_made : c.g-made.result ≡ key_and_coins family ek m =
    c.g-made.ensures ∙ ap (λ (x : List ℕ). family.g_of (m ++ x)) (c.h.ensures ∙ ap family.h_of c.as_slice-2.ensures.value) in
    let same : encrypt set family ek m (drop 32 c.g-made.result) ≡ encrypt set family ek m c.halves.result.1 =
    ap (encrypt set family ek m) (sym c.halves.ensures.second) in
    let p = err_from_is_err_and c.from_residual-in_err-again.result c.from_residual-in_err-again.ensures.1 in
    rw (← c.self.view_is) (rw (p.1, p.2) (refused (λ (bytes : Vec ℕ Global). bytes.items) (λ (key : List ℕ). key) c.in_err-again.field-0.0
    (encrypt set family ek m c.halves.result.1) (decaps set family s ek c.self.inside.z text)
    c.in_err-again.ensures.value (λ none. decaps-none set family s ek c.self.inside.z text m c.g-made.result is_m is_made (same ∙ none))))

pub returns-in_err-again-clause-from_seed : goal.returns-in_err-again-clause-from_seed
returns-in_err-again-clause-from_seed g c =
    let set : Parameters = g.P.ParameterSet.set in
    let family : Family = g.H.KemHash.family in
    let s : List (List ℕ) = map inverse_transform c.self.inside.s_hat in
    let ek : List ℕ = c.self.inside.ek in
    let m : List ℕ = c.in_ok-m.m in
    let text : List ℕ = c.args.c.now in
    let is_m : m ≡ decrypt set s text = c.in_ok-m.ensures ∙ ap (decrypt set s) c.as_slice.ensures.value in
    let is_made : c.g-made.result ≡ key_and_coins family ek m =
    c.g-made.ensures ∙ ap (λ (x : List ℕ). family.g_of (m ++ x)) (c.h.ensures ∙ ap family.h_of c.as_slice-2.ensures.value) in
    let same : encrypt set family ek m (drop 32 c.g-made.result) ≡ encrypt set family ek m c.halves.result.1 =
    ap (encrypt set family ek m) (sym c.halves.ensures.second) in
    let p = err_from_is_err_and c.from_residual-in_err-again.result c.from_residual-in_err-again.ensures.1 in
    rw (← c.self.view_is) (λ seeded exhausted.
    let there : c.self.inside.seed ≢ None = λ none. true≢false (sym seeded ∙ ap (λ (o : Option (List ℕ)). is_some o) none) in
    not-exhausted (λ (bytes : Vec ℕ Global). bytes.items) c.in_err-again.field-0.0 (encrypt set family ek m c.halves.result.1)
    c.in_err-again.ensures.value (λ none. c.self.invariant.0.sampled there (encrypt-none-from set family ek m (drop 32 c.g-made.result) (same ∙ none)))
    (sym p.2 ∙ same-error {X = List ℕ} p.0 XofExhausted (sym p.1 ∙ exhausted)))

pub returns-clause-value : goal.returns-clause-value
returns-clause-value g c =
    let set : Parameters = g.P.ParameterSet.set in
    let family : Family = g.H.KemHash.family in
    let s : List (List ℕ) = map inverse_transform c.self.inside.s_hat in
    let ek : List ℕ = c.self.inside.ek in
    let m : List ℕ = c.in_ok-m.m in
    let text : List ℕ = c.args.c.now in
    let is_m : m ≡ decrypt set s text = c.in_ok-m.ensures ∙ ap (decrypt set s) c.as_slice.ensures.value in
    let is_made : c.g-made.result ≡ key_and_coins family ek m =
    c.g-made.ensures ∙ ap (λ (x : List ℕ). family.g_of (m ++ x)) (c.h.ensures ∙ ap family.h_of c.as_slice-2.ensures.value) in
    let same : encrypt set family ek m (drop 32 c.g-made.result) ≡ encrypt set family ek m c.halves.result.1 =
    ap (encrypt set family ek m) (sym c.halves.ensures.second) in
    let z : List ℕ = c.self.inside.z in
    let again : List ℕ = c.in_ok-again.again.items in
    rw (← c.self.view_is) (decaps-some set family s ek z text m c.g-made.result again c.ct_select_array.result is_m is_made (same ∙ c.in_ok-again.ensures.value)
    (c.ct_select_array.ensures
    ∙ ap (λ (b : Bool). if b then c.halves.result.0 else c.j-rejected.result) (c.ct_eq_slice-is_same.ensures ∙ ap₂ bytes_eq c.as_slice-4.ensures.value c.as_slice-5.ensures.value)
    ∙ ap₂ (λ (k r : List ℕ). if bytes_eq again text then k else r) c.halves.ensures.first (c.j-rejected.ensures ∙ ap (λ (x : List ℕ). family.j_of (z ++ x)) c.as_slice-3.ensures.value)))
