use Rattle.std.proofs.Common.{◌∙◌, rules}
use Rattle.module_lattice.specs.Ring.{IsPolynomial}
use Rattle.dsa_ring.proofs.ProductLaw.{all-products}
use Rattle.dsa_ring.proofs.products.dsa_multiply.Goals as goal

pub returns : goal.returns
returns c =
    let first : IsPolynomial 8380417 c.args.a.now = c.loop-i.invariant.first (search rules) in
    let second : IsPolynomial 8380417 c.args.b.now = c.loop-i.invariant.second (search rules) in
    c.new.ensures
    ∙ all-products c.args.a.now c.args.b.now c.loop-i.values first.size second.size c.loop-i.invariant.size
    (λ k inside. c.loop-i.invariant.made k (search rules))
