use Rattle.std.proofs.Common.{◌≡◌, ℕ, List, length, replicate, take, sym, ap, ◌∙◌, arith}
use Rattle.gcm_core.specs.Aes.{aes, key_expansion}
use Rattle.gcm_core.specs.Ghash.{polynomial_of}
use Rattle.gcm_core.proofs.Sealing.{cipher-aes, take-expanded}
use Rattle.gcm_core.proofs.aes_gcm.AesGcm.new.Goals as goal

pub invariant_of-result : goal.invariant_of-result
invariant_of-result g c =
    let key : List ℕ = c.args.key.now in
    let w : List ℕ = c.expand_key.new.round_keys in
    let zeros : List ℕ = replicate 16 0 in
    let n : g.row.KEY_SIZE ≡ length key = omega arith in
    let front : key ≡ take g.row.KEY_SIZE w = sym (ap (λ (m : ℕ). take m w) n ∙ take-expanded key w c.expand_key.ensures) in (
      c.expand_key.ensures ∙ ap key_expansion front,
      c.«new-hash_key».ensures ∙ c.hash_subkey.ensures ∙ ap (λ (f : List ℕ → List ℕ). polynomial_of (f zeros)) (cipher-aes key w c.expand_key.ensures)
          ∙ ap (λ (k : List ℕ). polynomial_of (aes k zeros)) front,
      omega arith,
    )

pub returns : goal.returns
returns g c =
    let key : List ℕ = c.args.key.now in
    let w : List ℕ = c.expand_key.new.round_keys in
    let n : g.row.KEY_SIZE ≡ length key = omega arith in
    ap (λ (m : ℕ). take m w) n ∙ take-expanded key w c.expand_key.ensures
