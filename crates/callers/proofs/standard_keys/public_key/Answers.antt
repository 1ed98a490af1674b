use Rattle.std.proofs.Common.{◌≡◌, List, ℕ, Option, None, Some, sym, ap, ◌∙◌}
use Rattle.std.specs.Option.{option_map}
use Rattle.ml_kem.specs.Expanded.{SecretKey, key_of_seed}
use Rattle.ml_kem.specs.Keys.{Key, key_of}
use Rattle.ml_kem.specs.Parameters.{ml_kem_768}
use Rattle.sha3_family.specs.Sha3Family.{sha3_family}
use Rattle.callers.proofs.standard_keys.public_key.Goals as goal

-- the public part of a seed's key
public_part : (seed : List ℕ) (made : Option Key) (key : SecretKey) → option_map (key_of_seed seed) made ≡ Some key
    → option_map (λ (k : Key). k.ek) made ≡ Some key.ek
public_part seed None key is = absurd (cc)
public_part seed (Some k) key is =
    let same : key_of_seed seed k ≡ key = cc in
    ap Some (ap (λ (x : SecretKey). x.ek) same)

pub returns : goal.returns
returns c =
    public_part c.args.seed.now (key_of ml_kem_768 sha3_family c.args.seed.now) c.in_ok-key.key c.in_ok-key.ensures.value
    ∙ ap Some (sym (c.in_ok-to_bytes.ensures.value ∙ c.encapsulation_key.ensures.value))
