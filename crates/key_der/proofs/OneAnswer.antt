-- No text has two answers, besides want of memory, and each has one.
use Rattle.std.proofs.Common.{◌≡◌, ◌≢◌, ◌⊎◌, inl, inr, ℕ, List, ◌++◌, length, drop, refl, sym, ap, ◌∙◌, subst, Option, None, Some, Result, Ok, Err}
use Rattle.std.proofs.Math.Seq.{drop-append_seam}
use Rattle.std.specs.Option.{option_map}
use Rattle.kem_hash.specs.Family.{Family}
use Rattle.ml_kem.specs.Expanded.{SecretKey, key_of_seed}
use Rattle.ml_kem.specs.Keys.{IsEncapsulationKey, key_of}
use Rattle.ml_kem.specs.Parameters.{IsSet, Parameters}
use Rattle.key_der.specs.Keys.{private_header, public_header, seed_size}
use Rattle.key_der.specs.Reading.{IsPrivateKey, IsPublicKey, ReadsPrivateKey, ReadsPublicKey, mismatch}
use Rattle.key_der.specs.declared.error.DerError.{DerError}
use Rattle.key_der.specs.declared.error.DerError.TheVariants.{InvalidKey, NoMemory, NoSeed, NotThisShape, XofExhausted}
use Rattle.key_der.proofs.Answered.{is_private_key, is_public_key}
use Rattle.key_der.proofs.Differences.{mismatch-append, mismatch-none}
use Rattle.key_der.proofs.Texts.{length-private_header, length-public_header, one_asymmetric_key-parts, subject_public_key_info-parts}

-- a header and a key behind it have the shape, and the key stands behind the header
shaped : (header key text : List ℕ) (size : ℕ) → length header ≡ 22 → length key ≡ size → text ≡ header ++ key
    → (mismatch header size text ≡ None) × (drop 22 text ≡ key)
shaped header key text size header_long key_long whole =
    let fits : mismatch header size text ≡ None =
    ap (λ (n : ℕ). mismatch header n text) (sym key_long) ∙ ap (mismatch header (length key)) whole ∙ mismatch-append header key in
    let behind : drop 22 text ≡ key =
    ap (drop 22) whole ∙ ap (λ (n : ℕ). drop n (header ++ key)) (sym header_long) ∙ drop-append_seam header key in
    (fits, behind)

-- what a private key's text answers where memory suffices
made_or : Option SecretKey → Result SecretKey DerError
made_or (Some key) = Ok key
made_or None = Err XofExhausted

answer_at : Parameters → Family → List ℕ → Option ℕ → Result SecretKey DerError
answer_at set family seed (Some place) = Err (NotThisShape place)
answer_at set family seed None = made_or (option_map (key_of_seed seed) (key_of set family seed))

private_answer : Parameters → Family → List ℕ → Result SecretKey DerError
private_answer set family text = answer_at set family (drop 22 text) (mismatch (private_header set) seed_size text)

-- the answer of a text that has the shape
answered : (set : Parameters) (family : Family) (seed text : List ℕ) (made : Option SecretKey) → IsSet set → IsPrivateKey set seed text
    → option_map (key_of_seed seed) (key_of set family seed) ≡ made → private_answer set family text ≡ made_or made
unfolding private_answer answer_at
answered set family seed text made set_is is made_is =
    let parts : (mismatch (private_header set) seed_size text ≡ None) × (drop 22 text ≡ seed) =
    shaped (private_header set) seed text seed_size (length-private_header set set_is) is.size (is.spelled ∙ one_asymmetric_key-parts set seed set_is is.size) in
    ap (answer_at set family (drop 22 text)) parts.0 ∙ ap (λ (s : List ℕ). answer_at set family s None) parts.1 ∙ ap made_or made_is

-- every answer but want of memory is that one
is_answer : (set : Parameters) (family : Family) (text : List ℕ) (a : Result SecretKey DerError) → IsSet set
    → ReadsPrivateKey {X = SecretKey} (λ key. key) set family text a → a ≢ Err NoMemory → a ≡ private_answer set family text
unfolding private_answer answer_at made_or
is_answer set family text (Ok key) set_is reads other = sym (answered set family reads.0 text (Some key) set_is reads.1 reads.2)
is_answer set family text (Err (NotThisShape place)) set_is reads other = sym (ap (answer_at set family (drop 22 text)) reads)
is_answer set family text (Err XofExhausted) set_is reads other = sym (answered set family reads.0 text None set_is reads.1 reads.2)
is_answer set family text (Err NoMemory) set_is reads other = absurd (other refl)
is_answer set family text (Err InvalidKey) set_is reads other = absurd reads
is_answer set family text (Err NoSeed) set_is reads other = absurd reads

pub one_private : (set : Parameters) (family : Family) (text : List ℕ) (a b : Result SecretKey DerError) → IsSet set
    → ReadsPrivateKey {X = SecretKey} (λ key. key) set family text a → ReadsPrivateKey {X = SecretKey} (λ key. key) set family text b
    → a ≢ Err NoMemory → b ≢ Err NoMemory → a ≡ b
one_private set family text a b set_is reads_a reads_b other_a other_b =
    is_answer set family text a set_is reads_a other_a ∙ sym (is_answer set family text b set_is reads_b other_b)

-- a text that has the shape is the private key of the seed behind the header
private_at : (set : Parameters) (text : List ℕ) → IsSet set → mismatch (private_header set) seed_size text ≡ None → (seed : List ℕ) × IsPrivateKey set seed text
private_at set text set_is fits =
    let parts : (key : List ℕ) × (text ≡ private_header set ++ key) × (length key ≡ seed_size) = mismatch-none (private_header set) text seed_size fits in
    (parts.0, is_private_key set (private_header set) parts.0 text set_is refl parts.1 parts.2)

-- an answer of a text that has the shape
some_made : (set : Parameters) (family : Family) (seed text : List ℕ) (made : Option SecretKey) → IsPrivateKey set seed text
    → option_map (key_of_seed seed) (key_of set family seed) ≡ made
    → (answer : Result SecretKey DerError) × ReadsPrivateKey {X = SecretKey} (λ key. key) set family text answer × (answer ≢ Err NoMemory)
some_made set family seed text (Some key) is made_is = (Ok key, (seed, is, made_is), λ e. cc)
some_made set family seed text None is made_is = (Err XofExhausted, (seed, is, made_is), λ e. cc)

-- an answer of any text
some_at : (set : Parameters) (family : Family) (text : List ℕ) (place : Option ℕ) → IsSet set → mismatch (private_header set) seed_size text ≡ place
    → (answer : Result SecretKey DerError) × ReadsPrivateKey {X = SecretKey} (λ key. key) set family text answer × (answer ≢ Err NoMemory)
some_at set family text (Some place) set_is leaves = (Err (NotThisShape place), leaves, λ e. cc)
some_at set family text None set_is fits =
    let held : (seed : List ℕ) × IsPrivateKey set seed text = private_at set text set_is fits in
    some_made set family held.0 text (option_map (key_of_seed held.0) (key_of set family held.0)) held.1 refl

pub some_private : (set : Parameters) (family : Family) (text : List ℕ) → IsSet set
    → (answer : Result SecretKey DerError) × ReadsPrivateKey {X = SecretKey} (λ key. key) set family text answer × (answer ≢ Err NoMemory)
some_private set family text set_is = some_at set family text (mismatch (private_header set) seed_size text) set_is refl

-- what an answer to a public key's text says: a place, a key, or that there is none
abbrev Says : Parameters → List ℕ → Result (List ℕ) DerError → Type 0
Says set text a =
    ((place : ℕ) × (mismatch (public_header set) set.ek_size text ≡ Some place) × (a ≡ Err (NotThisShape place)))
    ⊎ ((mismatch (public_header set) set.ek_size text ≡ None)
    × ((IsEncapsulationKey set (drop 22 text) × (a ≡ Ok (drop 22 text))) ⊎ ((¬ IsEncapsulationKey set (drop 22 text)) × (a ≡ Err InvalidKey))))

-- a public key's text has the shape, and the key stands behind the header
shaped_public : (set : Parameters) (ek text : List ℕ) → IsSet set → IsPublicKey set ek text
    → (mismatch (public_header set) set.ek_size text ≡ None) × (drop 22 text ≡ ek)
shaped_public set ek text set_is is =
    shaped (public_header set) ek text set.ek_size (length-public_header set set_is) is.size (is.spelled ∙ subject_public_key_info-parts set ek set_is is.size)

says : (set : Parameters) (text : List ℕ) (a : Result (List ℕ) DerError) → IsSet set
    → ReadsPublicKey {X = List ℕ} (λ key. key) set text a → a ≢ Err NoMemory → Says set text a
says set text (Ok key) set_is reads other =
    let parts : (mismatch (public_header set) set.ek_size text ≡ None) × (drop 22 text ≡ key) = shaped_public set key text set_is reads.0 in
    inr (parts.0, inl (subst (IsEncapsulationKey set) (sym parts.1) reads.1, ap (λ (xs : List ℕ). Ok xs) (sym parts.1)))
says set text (Err (NotThisShape place)) set_is reads other = inl (place, reads, refl)
says set text (Err InvalidKey) set_is reads other =
    let parts : (mismatch (public_header set) set.ek_size text ≡ None) × (drop 22 text ≡ reads.0) = shaped_public set reads.0 text set_is reads.1 in
    inr (parts.0, inr ((λ is. reads.2 (subst (IsEncapsulationKey set) parts.1 is)), refl))
says set text (Err NoMemory) set_is reads other = absurd (other refl)
says set text (Err XofExhausted) set_is reads other = absurd reads
says set text (Err NoSeed) set_is reads other = absurd reads

-- two answers that say the like are one
same_said : (set : Parameters) (text : List ℕ) (a b : Result (List ℕ) DerError) → Says set text a → Says set text b → a ≡ b
same_said set text a b (inl x) (inl y) = cc
same_said set text a b (inl x) (inr y) = cc
same_said set text a b (inr x) (inl y) = cc
same_said set text a b (inr (x, inl u)) (inr (y, inl v)) = u.1 ∙ sym v.1
same_said set text a b (inr (x, inl u)) (inr (y, inr v)) = absurd (v.0 u.0)
same_said set text a b (inr (x, inr u)) (inr (y, inl v)) = absurd (u.0 v.0)
same_said set text a b (inr (x, inr u)) (inr (y, inr v)) = u.1 ∙ sym v.1

pub one_public : (set : Parameters) (text : List ℕ) (a b : Result (List ℕ) DerError) → IsSet set
    → ReadsPublicKey {X = List ℕ} (λ key. key) set text a → ReadsPublicKey {X = List ℕ} (λ key. key) set text b
    → a ≢ Err NoMemory → b ≢ Err NoMemory → a ≡ b
one_public set text a b set_is reads_a reads_b other_a other_b =
    same_said set text a b (says set text a set_is reads_a other_a) (says set text b set_is reads_b other_b)

-- where no answer but want of memory would be right, a text that has the shape would hold no key, and this is an answer
no_public : (set : Parameters) (ek text : List ℕ) → IsPublicKey set ek text
    → ((answer : Result (List ℕ) DerError) → ReadsPublicKey {X = List ℕ} (λ key. key) set text answer → answer ≡ Err NoMemory) → ⊥
no_public set ek text is none =
    let no_key : ¬ IsEncapsulationKey set ek = λ key. (let e : Ok ek ≡ Err NoMemory = none (Ok ek) (is, key) in cc) in
    let e : Err InvalidKey ≡ Err NoMemory = none (Err InvalidKey) (ek, is, no_key) in
    cc

some_public_at : (set : Parameters) (text : List ℕ) (place : Option ℕ) → IsSet set → mismatch (public_header set) set.ek_size text ≡ place
    → ((answer : Result (List ℕ) DerError) → ReadsPublicKey {X = List ℕ} (λ key. key) set text answer → answer ≡ Err NoMemory) → ⊥
some_public_at set text (Some place) set_is leaves none =
    let e : Err (NotThisShape place) ≡ Err NoMemory = none (Err (NotThisShape place)) leaves in
    cc
some_public_at set text None set_is fits none =
    let parts : (key : List ℕ) × (text ≡ public_header set ++ key) × (length key ≡ set.ek_size) = mismatch-none (public_header set) text set.ek_size fits in
    no_public set parts.0 text (is_public_key set (public_header set) parts.0 text set_is refl parts.1 parts.2) none

pub some_public : (set : Parameters) (text : List ℕ) → IsSet set
    → ((answer : Result (List ℕ) DerError) → ReadsPublicKey {X = List ℕ} (λ key. key) set text answer → answer ≡ Err NoMemory) → ⊥
some_public set text set_is = some_public_at set text (mismatch (public_header set) set.ek_size text) set_is refl
