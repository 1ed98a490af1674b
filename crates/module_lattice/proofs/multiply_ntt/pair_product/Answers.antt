use Rattle.module_lattice.proofs.Products.{constant_of}
use Rattle.module_lattice.proofs.multiply_ntt.pair_product.Goals as goal

pub returns-clause-value : goal.returns-clause-value
returns-clause-value c =
    cc (constant_of c.coefficient-a0.result c.coefficient-a1.result c.coefficient-b0.result c.coefficient-b1.result c.gamma.result)
