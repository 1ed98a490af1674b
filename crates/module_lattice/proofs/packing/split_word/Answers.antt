use Rattle.std.proofs.Common.{◌≡◌, ◌≢◌, ℕ, ◌*◌, ◌/◌, ◌%◌, ◌^◌, ◌-◌, ◌<◌, ◌∙◌, ap, arith, below_more, bit_and, get_or-set_other, get_or-set_same, length}
use Rattle.std.proofs.lemmas.List.FromFn.{fill_by_all}
use Rattle.std.proofs.lemmas.Nat.{and_mask, one_shl}
use Rattle.module_lattice.proofs.packing.split_word.Goals as goal

pub loop-j-preserved : goal.loop-j-preserved
loop-j-preserved c =
    let word : ℕ = c.args.word / 2 ^ (c.args.d * c.loop-j.j) in
    let one : 1 * 2 ^ c.args.d % 2 ^ 128 ≡ 2 ^ c.args.d = one_shl c.args.d 128 (omega arith) in
    let mask : bit_and word (1 * 2 ^ c.args.d % 2 ^ 128 - 1) ≡ word % 2 ^ c.args.d = ap (λ (m : ℕ). bit_and word (m - 1)) one ∙ and_mask word c.args.d in
    below_more _ _
    (λ k h. let ne : k ≢ c.loop-j.j = omega arith in rw get_or-set_other (c.loop-j.invariant k h))
    (let lt : c.loop-j.j < length c.loop-j.out = omega arith in rw get_or-set_same mask)

pub returns : goal.returns
returns c =
    fill_by_all (λ j. c.args.word / 2 ^ (c.args.d * j) % 2 ^ c.args.d) c.loop-j.out (length c.args.out.now) 0 c.loop-j.auto.out (λ k lt. c.loop-j.invariant k (omega arith))
