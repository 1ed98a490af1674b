-- Compression (FIPS 203, section 4.2.1), which keeps d bits of a number below q, rounded to the
-- nearest. A fraction rounded to the nearest is the floor of the fraction and one half.
use Rattle.std.specs.Prelude.{ℕ, ◌+◌, ◌*◌, ◌/◌, ◌%◌, ◌^◌}
use Rattle.ml_kem.specs.Parameters.{q}

-- Compress_d: (2^d / q)·x rounded, modulo 2^d
abbrev pub compress : ℕ → ℕ → ℕ
compress d x = (2 ^ (d + 1) * x + q) / (2 * q) % 2 ^ d

-- Decompress_d: (q / 2^d)·y rounded
abbrev pub decompress : ℕ → ℕ → ℕ
decompress d y = (2 * q * y + 2 ^ d) / 2 ^ (d + 1)
