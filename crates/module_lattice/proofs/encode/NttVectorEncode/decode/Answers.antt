use Rattle.std.proofs.Common.{length, rules, ◌≡◌, ℕ, List, ◌+◌, ◌-◌, ◌*◌, ◌^◌, ◌<◌, All, ◌++◌, ◌∷◌, [], take, drop, ap, ◌∙◌, arith}
use Rattle.std.proofs.lemmas.List.Elements.{All-same}
use Rattle.module_lattice.specs.Groups.{decoded}
use Rattle.module_lattice.specs.Ring.{IsPolynomial}
use Rattle.module_lattice.proofs.Encoding.{All-decoded_each, All-polynomials, decoded_more, decoded_done, length-decoded_each}
use Rattle.module_lattice.proofs.encode.NttVectorEncode.decode.Goals as goal

pub loop-i-preserved : goal.loop-i-preserved
loop-i-preserved g c =
    let q : ℕ = g.F.Field.Q in
    let d : ℕ = c.args.d in
    let start : ℕ = 32 * d * c.loop-i.i in
    let bytes : List ℕ = c.args.bytes.now in
    let piece : start + 32 * d - start ≡ 32 * d = omega arith in
    c.in_ok-push.ensures.items ∙ ap (λ z. c.loop-i.items.items ++ z ∷ []) c.new.ensures
    ∙ decoded_more q d c.args.count bytes c.loop-i.i c.loop-i.items.items c.decode_one.result (search rules)
    (c.decode_one.ensures.value ∙ ap (λ (k : ℕ). decoded q d (take k (drop start bytes))) piece) c.loop-i.invariant

pub returns-clause-value : goal.returns-clause-value
returns-clause-value g c =
    c.new-2.ensures ∙ decoded_done g.F.Field.Q c.args.d c.args.count c.args.bytes.now c.loop-i.i c.loop-i.items.items (search rules) c.loop-i.invariant

pub returns-clause-count : goal.returns-clause-count
returns-clause-count g c = ap length (returns-clause-value g c) ∙ length-decoded_each g.F.Field.Q c.args.d c.args.count c.args.bytes.now

pub returns-clause-in_width : goal.returns-clause-in_width
returns-clause-in_width g c =
    All-same (λ f. All (λ x. x < 2 ^ c.args.d) f) _ _ (returns-clause-value g c) (All-decoded_each g.F.Field.Q c.args.d c.args.count c.args.bytes.now)

pub returns-clause-polynomials : goal.returns-clause-polynomials
returns-clause-polynomials g c =
    All-same (IsPolynomial g.F.Field.Q) _ _ (returns-clause-value g c)
    (All-polynomials g.F.Field.Q c.args.d c.args.count c.args.bytes.now c.requires.positive c.requires.width c.requires.bytes)
