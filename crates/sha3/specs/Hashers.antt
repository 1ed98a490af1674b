-- What contracts see of the public types: the message that was taken in, and how much of its output was
-- given.
use Rattle.std.specs.Prelude.{ℕ, List}
use Rattle.sha3.specs.Pieces.{Absorbs, Squeezes}
use Rattle.sha3.specs.Sha3.{xof_suffix}
use Rattle.sha3.specs.Sponge.{absorbed_whole}
use Rattle.sha3.specs.declared.hash.Sha3_256.{Sha3_256}
use Rattle.sha3.specs.declared.hash.Sha3_512.{Sha3_512}
use Rattle.sha3.specs.declared.shake.Shake128.{Shake128}
use Rattle.sha3.specs.declared.shake.Shake128Reader.{Shake128Reader}
use Rattle.sha3.specs.declared.shake.Shake256.{Shake256}
use Rattle.sha3.specs.declared.shake.Shake256Reader.{Shake256Reader}

-- this message was taken in under SHA3-256
abbrev pub Holds256 : Sha3_256 → List ℕ → Type 0
Holds256 s m = Absorbs 136 s.sponge m

-- this message was taken in under SHA3-512
abbrev pub Holds512 : Sha3_512 → List ℕ → Type 0
Holds512 s m = Absorbs 72 s.sponge m

-- this message was taken in under SHAKE128
abbrev pub HoldsShake128 : Shake128 → List ℕ → Type 0
HoldsShake128 s m = Absorbs 168 s.sponge m

-- this message was taken in under SHAKE256
abbrev pub HoldsShake256 : Shake256 → List ℕ → Type 0
HoldsShake256 s m = Absorbs 136 s.sponge m

-- of SHAKE128 of this message so many bytes were given
abbrev pub Gave128 : Shake128Reader → List ℕ → ℕ → Type 0
Gave128 s m given = Squeezes 168 (absorbed_whole 168 xof_suffix m) s.squeezer given

-- of SHAKE256 of this message so many bytes were given
abbrev pub Gave256 : Shake256Reader → List ℕ → ℕ → Type 0
Gave256 s m given = Squeezes 136 (absorbed_whole 136 xof_suffix m) s.squeezer given
