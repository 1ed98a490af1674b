use Rattle.std.proofs.Common.{◌*◌, ◌<◌, ◌≤◌, ◌↔◌, ℕ, length, arith, refl}
use Rattle.std.specs.Prelude.{Result, Ok, Err, IsErr, OnOk}
use Rattle.hpke.proofs.kdf.fill_short.Goals as goal

-- what is refused above 255 digests is given at 129 bytes
given : {X E : Type 0} (r : Result X E) (P : Type 0) (digest n : ℕ) → IsErr r ↔ (255 * digest < n) → 1 ≤ digest → n ≤ 129 → OnOk r P → P
given (Ok x) P digest n refused least short filled = filled
given (Err e) P digest n refused least short filled = let above : 255 * digest < n = refused.0 refl in absurd (omega arith)

pub returns : goal.returns
returns g c = λ prk is.
    given c.labeled_expand-filled.result _ g.T.HkdfHash.DIGEST_SIZE (length c.args.out.now) c.labeled_expand-filled.ensures.invalid_length
    (g.met.T.HkdfHash.digest_size_in_range).0 c.requires (c.labeled_expand-filled.ensures.output prk is)
