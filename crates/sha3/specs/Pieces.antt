-- What contracts see of a message that is taken in piece by piece, and of an output that is given piece
-- by piece.
use Rattle.std.specs.Prelude.{◌≡◌, ◌⊎◌, ℕ, zero, suc, ◌+◌, ◌*◌, ◌%◌, ◌<◌, ◌≤◌, List, take, drop, length}
use Rattle.sha3.specs.Keccak.{keccak_f}
use Rattle.sha3.specs.Sha3.{hash_suffix, xof_suffix}
use Rattle.sha3.specs.Sponge.{absorbed, state_bytes}

-- a rate in bytes: whole lanes, and at most those of SHAKE128
abbrev pub IsRate : ℕ → Type 0
IsRate rate = (8 ≤ rate) × (rate ≤ 168) × (rate % 8 ≡ 0)

-- the byte of the bits behind a message and the first bit of the padding
abbrev pub IsDomain : ℕ → List ℕ → Type 0
IsDomain domain suffix = ((domain ≡ 0x06) × (suffix ≡ hash_suffix)) ⊎ ((domain ≡ 0x1F) × (suffix ≡ xof_suffix))

-- what is held of a message: a state, a buffer, and how many of its bytes count
pub record Held : Type 0 where
  pub state : List ℕ
  pub buffer : List ℕ
  pub len : ℕ

-- this message was taken in: its whole blocks are absorbed, and the rest, which is shorter than a block,
-- stands in the buffer
unfoldable pub Absorbs : ℕ → Held → List ℕ → Type 0
Absorbs rate held message = (n : ℕ) × (length message ≡ n * rate + held.len) × (held.len < rate)
    × (held.state ≡ absorbed rate message n) × (take held.len held.buffer ≡ drop (n * rate) message)

-- the state after n turns of the permutation
unfoldable pub permuted : List ℕ → ℕ → List ℕ
permuted a zero = a
permuted a (suc n) = keccak_f (permuted a n)

-- what is left of an output: a state, the block that it gives, and how many of its bytes are gone
pub record Left : Type 0 where
  pub state : List ℕ
  pub block : List ℕ
  pub gone : ℕ

-- of the output that is squeezed from a state, which has 25 lanes, this many bytes were given
unfoldable pub Squeezes : ℕ → List ℕ → Left → ℕ → Type 0
Squeezes rate from left given = (n : ℕ) × (length from ≡ 25) × (given ≡ n * rate + left.gone) × (left.gone ≤ rate)
    × (left.state ≡ permuted from n) × (left.block ≡ take rate (state_bytes left.state))
