use Rattle.dsa_ring.proofs.ProductLaw.{inverse-of-products, transform-product}
use Rattle.dsa_ring.proofs.laws.products_are_place_products.Goals as goal

pub returns-clause-transform : goal.returns-clause-transform
returns-clause-transform c = transform-product

pub returns-clause-inverse : goal.returns-clause-inverse
returns-clause-inverse c = inverse-of-products
