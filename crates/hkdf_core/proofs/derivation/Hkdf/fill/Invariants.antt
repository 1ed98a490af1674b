use Rattle.std.proofs.Common.{◌≡◌, ℕ, ◌*◌, List, length, take}
use Rattle.hkdf_core.specs.Hmac.{hmac, key_block}
use Rattle.hkdf_core.specs.Hkdf.{output_block, output_blocks}
use Rattle.hkdf_core.proofs.derivation.Hkdf.fill.Given as goal

abbrev pub invariant-loop-index : goal.invariant-loop-index
invariant-loop-index g l = (prk : List ℕ) → l.self ≡ key_block g.T.HkdfHash.hash_of g.T.HkdfHash.BLOCK_SIZE prk
    → (l.previous ≡ output_block (hmac g.T.HkdfHash.hash_of g.T.HkdfHash.BLOCK_SIZE prk) l.info l.index)
    × (take (l.index * g.T.HkdfHash.DIGEST_SIZE) l.out
    ≡ take (length l.out) (output_blocks (hmac g.T.HkdfHash.hash_of g.T.HkdfHash.BLOCK_SIZE prk) l.info l.index))
