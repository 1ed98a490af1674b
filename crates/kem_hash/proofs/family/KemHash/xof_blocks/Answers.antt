use Rattle.std.proofs.Common.{rules, ℕ, ◌≡◌, ◌+◌, ◌*◌, ◌≤◌, List, ◌++◌, length, take, drop, ap, ap₂, sym, ◌∙◌, arith, take-add, take_all}
use Rattle.std.proofs.lemmas.Slice.{take-put_mid}
use borrow.Rule.Slice.PartMut.{put_mid}
use Rattle.kem_hash.proofs.family.KemHash.xof_blocks.Goals as goal

-- block n is written behind the blocks before it
block_written : (x out ys : List ℕ) (n k : ℕ) → 168 * n + 168 ≤ length out → ys ≡ take 168 (drop (168 * n) x) → length ys ≡ 168
    → take (168 * n) out ≡ take (168 * n) x → take (168 * (n + 1)) (put_mid (168 * n) k out ys) ≡ take (168 * (n + 1)) x
block_written x out ys n k room is long before =
    let end : 168 * (n + 1) ≡ 168 * n + 168 = omega arith in
    take-put_mid (168 * n) k out ys (168 * (n + 1)) (omega arith) (omega arith)
    ∙ ap₂ (λ (p q : List ℕ). p ++ q) before is ∙ sym (ap (λ (m : ℕ). take m x) end ∙ take-add (168 * n) 168 x)

pub loop-n-preserved : goal.loop-n-preserved
loop-n-preserved g c =
    block_written (g.Self.KemHash.family.xof_of c.args.rho.now c.args.a c.args.b) c.loop-n.out c.copy_from_slice.new.self c.loop-n.n _
    (omega arith) (c.copy_from_slice.ensures.after ∙ c.xof_block-block.ensures) (search rules) c.loop-n.invariant

pub returns : goal.returns
returns g c =
    let size : 168 * c.loop-n.n ≡ length c.args.out.now = omega arith in
    sym (take_all (168 * c.loop-n.n) c.loop-n.out (omega arith)) ∙ c.loop-n.invariant
    ∙ ap (λ (m : ℕ). take m (g.Self.KemHash.family.xof_of c.args.rho.now c.args.a c.args.b)) size
