use Rattle.gcm_core.proofs.Hash.{block_product-lt, block_product-of_xor, block_product-one, block_product_assoc, block_product_comm}
use Rattle.gcm_core.proofs.laws.block_products.Goals as goal

pub returns-clause-closed : goal.returns-clause-closed
returns-clause-closed c = block_product-lt

pub returns-clause-commutative : goal.returns-clause-commutative
returns-clause-commutative c = block_product_comm

pub returns-clause-associative : goal.returns-clause-associative
returns-clause-associative c = block_product_assoc

pub returns-clause-additive : goal.returns-clause-additive
returns-clause-additive c = block_product-of_xor

pub returns-clause-one : goal.returns-clause-one
returns-clause-one c = block_product-one
