-- Messages that are sealed in order, one more at a time.
use Rattle.std.proofs.Common.{◌≡◌, ◌≢◌, ℕ, ◌+◌, List, [], ◌∷◌, ◌++◌, length, Option, Some, None, refl, sym, ap, ◌∙◌, arith}
use Rattle.std.specs.List.{AllByRecursion}
use Rattle.std.proofs.lemmas.List.{append-nil}
use Rattle.kem_mail.specs.Sealing.{sealed, unsealed}

module _ (meaning : ℕ → List ℕ → Option (List ℕ)) where
  pub sealed-some : (n : ℕ) (x body : List ℕ) (xs : List (List ℕ)) → meaning n x ≡ Some body → sealed meaning n (x ∷ xs) ≡ body ∷ sealed meaning (n + 1) xs
  sealed-some n x body xs e = rw (e, sealed) refl

  pub sealed-none : (n : ℕ) (x : List ℕ) (xs : List (List ℕ)) → meaning n x ≡ None → sealed meaning n (x ∷ xs) ≡ []
  sealed-none n x xs e = rw (e, sealed) refl

  pub unsealed-some : (n : ℕ) (x body : List ℕ) (xs : List (List ℕ)) → meaning n x ≡ Some body → unsealed meaning n (x ∷ xs) ≡ unsealed meaning (n + 1) xs
  unsealed-some n x body xs e = rw (e, unsealed) refl

  pub unsealed-none : (n : ℕ) (x : List ℕ) (xs : List (List ℕ)) → meaning n x ≡ None → unsealed meaning n (x ∷ xs) ≡ Some n
  unsealed-none n x xs e = rw (e, unsealed) refl

  -- where the messages of a front are all sealed, the others follow
  pub record Follows (n : ℕ) (xs ys : List (List ℕ)) : Type 0 where
    pub bodies : sealed meaning n (xs ++ ys) ≡ sealed meaning n xs ++ sealed meaning (n + length xs) ys
    pub number : unsealed meaning n (xs ++ ys) ≡ unsealed meaning (n + length xs) ys

  follows-one : (n : ℕ) (x : List ℕ) (xs ys : List (List ℕ)) (o : Option (List ℕ)) → meaning n x ≡ o → (unsealed meaning (n + 1) xs ≡ None → Follows (n + 1) xs ys)
      → unsealed meaning n (x ∷ xs) ≡ None → Follows n (x ∷ xs) ys
  follows-one n x xs ys None e later all = absurd (let none = sym (unsealed-none n x xs e) ∙ all in cc)
  follows-one n x xs ys (Some body) e later all =
      let rest = later (sym (unsealed-some n x body xs e) ∙ all) in
      let same : n + 1 + length xs ≡ n + length (x ∷ xs) = omega arith in
      record {
        bodies = sealed-some n x body (xs ++ ys) e ∙ (ap (λ (t : List (List ℕ)). body ∷ t) rest.bodies
            ∙ (ap (λ (k : ℕ). body ∷ (sealed meaning (n + 1) xs ++ sealed meaning k ys)) same
            ∙ ap (λ (t : List (List ℕ)). t ++ sealed meaning (n + length (x ∷ xs)) ys) (sym (sealed-some n x body xs e))));
        number = unsealed-some n x body (xs ++ ys) e ∙ (rest.number ∙ ap (λ (k : ℕ). unsealed meaning k ys) same);
      }

  pub follows : (n : ℕ) (xs ys : List (List ℕ)) → unsealed meaning n xs ≡ None → Follows n xs ys
  follows n [] ys all = let same : n ≡ n + 0 = omega arith in record { bodies = ap (λ (k : ℕ). sealed meaning k ys) same; number = ap (λ (k : ℕ). unsealed meaning k ys) same }
  follows n (x ∷ xs) ys all = follows-one n x xs ys (meaning n x) refl (follows (n + 1) xs ys) all

  -- one message, and what stands behind it
  pub record OneFirst (n : ℕ) (x : List ℕ) (xs : List (List ℕ)) : Type 0 where
    pub more : List (List ℕ)
    pub bodies : sealed meaning n (x ∷ xs) ≡ sealed meaning n (x ∷ []) ++ more
    pub number : unsealed meaning n (x ∷ []) ≢ None → (unsealed meaning n (x ∷ xs) ≡ unsealed meaning n (x ∷ [])) × (more ≡ [])

  one_first-as : (n : ℕ) (x : List ℕ) (xs : List (List ℕ)) (o : Option (List ℕ)) → meaning n x ≡ o → OneFirst n x xs
  one_first-as n x xs None e = record {
    more = [];
    bodies = sealed-none n x xs e ∙ (sym (sealed-none n x [] e) ∙ sym (append-nil (sealed meaning n (x ∷ []))));
    number = λ some. (unsealed-none n x xs e ∙ sym (unsealed-none n x [] e), refl);
  }
  one_first-as n x xs (Some body) e = record {
    more = sealed meaning (n + 1) xs;
    bodies = sealed-some n x body xs e ∙ ap (λ (t : List (List ℕ)). t ++ sealed meaning (n + 1) xs) (sym (sealed-some n x body [] e));
    number = λ some. absurd (some (unsealed-some n x body [] e));
  }

  pub one_first : (n : ℕ) (x : List ℕ) (xs : List (List ℕ)) → OneFirst n x xs
  one_first n x xs = one_first-as n x xs (meaning n x) refl

  -- all is sealed where each message is
  unsealed-each-as : (n : ℕ) (x : List ℕ) (xs : List (List ℕ)) (o : Option (List ℕ)) → meaning n x ≡ o → meaning n x ≢ None → unsealed meaning (n + 1) xs ≡ None → unsealed meaning n (x ∷ xs) ≡ None
  unsealed-each-as n x xs None e some later = absurd (some e)
  unsealed-each-as n x xs (Some body) e some later = unsealed-some n x body xs e ∙ later

  pub unsealed-each : (n : ℕ) (xs : List (List ℕ)) → AllByRecursion (λ x. (k : ℕ) → meaning k x ≢ None) xs → unsealed meaning n xs ≡ None
  unsealed-each n [] all = refl
  unsealed-each n (x ∷ xs) all = unsealed-each-as n x xs (meaning n x) refl (all.0 n) (unsealed-each (n + 1) xs all.1)
