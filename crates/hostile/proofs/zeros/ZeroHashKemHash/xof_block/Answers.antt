use Rattle.std.proofs.Common.{ℕ, ◌*◌, ◌-◌, ◌∙◌, take, sym, ap, arith}
use Rattle.std.proofs.lemmas.List.{drop-replicate, take-replicate}
use Rattle.hostile.proofs.zeros.ZeroHashKemHash.xof_block.Goals as goal

pub returns : goal.returns
returns c =
    let n : ℕ = c.args._n in
    let zero : ℕ = 0 in
    sym (ap (take 168) (drop-replicate (168 * n) 2688 zero) ∙ take-replicate 168 (2688 - 168 * n) zero (omega (arith, c.requires)))
