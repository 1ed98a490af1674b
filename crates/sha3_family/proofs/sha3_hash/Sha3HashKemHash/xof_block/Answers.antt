use Rattle.std.proofs.Common.{ℕ, ◌≡◌, ◌+◌, ◌*◌, ◌<◌, List, [], ◌∷◌, ◌++◌, take, drop, length, ap, sym, ◌∙◌, arith}
use Rattle.std.proofs.lemmas.List.{drop-take, drop_at}
use Rattle.sha3.specs.Sha3.{shake128}
use Rattle.sha3.proofs.Sizes.{length-shake128, take-shake128}
use Rattle.sha3_family.proofs.sha3_hash.Sha3HashKemHash.xof_block.Goals as goal

-- what stands behind the first blocks of the output
block_behind : (m block : List ℕ) (k n len : ℕ) → k ≡ n → n < 16 → len ≡ 168 → shake128 m (168 * k + len) ≡ shake128 m (168 * k) ++ block
    → block ≡ take 168 (drop (168 * n) (shake128 m 2688))
block_behind m block k n len at below size next =
    let whole : 168 * k + len ≡ 168 * k + 168 = omega arith in
    sym (drop_at (shake128 m (168 * k)) block (168 * k) (length-shake128 m (168 * k)))
    ∙ ap (drop (168 * k)) (sym next ∙ ap (shake128 m) whole ∙ sym (take-shake128 m (168 * k + 168) 2688 (omega arith)))
    ∙ drop-take (168 * k) 168 (shake128 m 2688)
    ∙ ap (λ (i : ℕ). take 168 (drop (168 * i) (shake128 m 2688))) at

pub returns : goal.returns
returns c =
    let m : List ℕ = c.args.rho.now ++ c.args.a ∷ c.args.b ∷ [] in
    block_behind m c.read-2.new.buffer c.loop-block._block c.args.n (length c.loop-block.out)
    (omega arith) (omega arith) (omega arith) (c.read-2.ensures.output m (168 * c.loop-block._block) c.loop-block.invariant)
