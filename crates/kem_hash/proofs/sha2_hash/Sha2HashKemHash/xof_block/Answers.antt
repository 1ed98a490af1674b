use Rattle.std.proofs.Common.{ℕ, ◌≡◌, ◌+◌, ◌-◌, ◌*◌, ◌∙◌, ap, sym, arith, take, drop}
use Rattle.std.specs.List.{flat_map, range_with_len}
use Rattle.sha2.proofs.Facts256.{length-sha224}
use Rattle.kem_hash.specs.Sha2.{xof_digest}
use Rattle.kem_hash.proofs.Joined.{part-joined}
use Rattle.kem_hash.proofs.sha2_hash.Sha2HashKemHash.xof_block.Goals as goal

pub returns : goal.returns
returns c =
    let digest = xof_digest c.args.rho.now c.args.a c.args.b in
    let all : 96 ≡ 6 * c.args.n + (6 + (90 - 6 * c.args.n)) = omega arith in
    c.fill_block.ensures
    ∙ sym (ap (λ (m : ℕ). take 168 (drop (168 * c.args.n) (flat_map digest (range_with_len 0 m)))) all
    ∙ part-joined digest 28 (λ k. length-sha224 _) (6 * c.args.n) 6 (90 - 6 * c.args.n) (168 * c.args.n) 168 (omega arith) (omega arith))
