use Rattle.std.proofs.Common.{◌≡◌, ℕ, ◌+◌, ◌-◌, ◌*◌, List, take, drop, sym, ap, ◌∙◌, arith}
use Rattle.std.specs.List.{flat_map, range_with_len}
use Rattle.kem_hash.proofs.Joined.{part-joined}
use Rattle.hash_families.proofs.Pieces.{same-joined}
use Rattle.hash_families.proofs.family.RepeatingHashKemHash.xof_block.Goals as goal

pub returns : goal.returns
returns g c =
    let n : ℕ = c.args._n in
    let bytes : List ℕ = g.P.Pattern.bytes in
    let all : 896 ≡ 56 * n + (56 + (840 - 56 * n)) = omega arith in
    c.repeat.ensures ∙ same-joined bytes 0 (56 * n) 56
    ∙ sym (ap (λ (m : ℕ). take 168 (drop (168 * n) (flat_map (λ i. bytes) (range_with_len 0 m)))) all
    ∙ part-joined (λ i. bytes) 3 (λ i. g.met.P.Pattern.are_bytes.size) (56 * n) 56 (840 - 56 * n) (168 * n) 168 (omega arith) (omega arith))
