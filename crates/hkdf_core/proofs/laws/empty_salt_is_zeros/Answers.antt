use Rattle.std.proofs.Common.{◌≤◌, ◌++◌, ℕ, List, ap, sym, ◌∙◌, arith}
use Rattle.hkdf_core.specs.Hmac.{hmac, masked, inner_pad, outer_pad}
use Rattle.hkdf_core.proofs.Blocks.{key_block-zeros}
use Rattle.hkdf_core.proofs.laws.empty_salt_is_zeros.Goals as goal

pub returns : goal.returns
unfolding hmac
returns g c = λ ikm.
    let hash = g.T.HkdfHash.hash_of in
    let in_range = g.met.T.HkdfHash.digest_size_in_range in
    let known = g.met.T.HkdfHash.block_size_is_64_or_128 in
    let fits : g.T.HkdfHash.DIGEST_SIZE ≤ g.T.HkdfHash.BLOCK_SIZE = omega (arith, known) in
    let same = key_block-zeros hash g.T.HkdfHash.BLOCK_SIZE 0 (omega arith)
    ∙ sym (key_block-zeros hash g.T.HkdfHash.BLOCK_SIZE g.T.HkdfHash.DIGEST_SIZE fits) in
    ap (λ (block : List ℕ). hash (masked outer_pad block ++ hash (masked inner_pad block ++ ikm))) same
