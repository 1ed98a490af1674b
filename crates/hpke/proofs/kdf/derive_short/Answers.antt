use Rattle.std.proofs.Common.{◌≡◌, ℕ, List, []}
use Rattle.std.specs.Prelude.{codes}
use Rattle.sha2.specs.Sha256.{sha256}
use Rattle.hkdf_core.specs.Hmac.{key_block}
use Rattle.hpke.specs.Labels.{kem_suite, labeled_extract, labeled_expand}
use Rattle.hpke.proofs.kdf.derive_short.Goals as goal

-- an extraction and then an expansion, under a suite that is another's equal
extracted_and_expanded : (hash : List ℕ → List ℕ) (block_size len : ℕ) (ikm suite same first second hkdf key : List ℕ) → suite ≡ same
    → hkdf ≡ key_block hash block_size (labeled_extract hash block_size [] suite first ikm)
    → ((prk : List ℕ) → hkdf ≡ key_block hash block_size prk → key ≡ labeled_expand hash block_size prk suite second [] len)
    → key ≡ labeled_expand hash block_size (labeled_extract hash block_size [] same first ikm) same second [] len
extracted_and_expanded hash block_size len ikm suite same first second hkdf key e is expands =
    rw (← e) (expands (labeled_extract hash block_size [] suite first ikm) is)

pub returns-clause-value : goal.returns-clause-value
returns-clause-value c =
    extracted_and_expanded sha256 64 c.args.len c.args.ikm.now c.kem_suite_id-suite_id.result (kem_suite c.args.kem_id) (codes "dkp_prk") (codes "sk")
    c.labeled_extract-prk.result.1 c.expand_short.result
    c.kem_suite_id-suite_id.ensures c.labeled_extract-prk.ensures.hkdf c.expand_short.ensures.output
