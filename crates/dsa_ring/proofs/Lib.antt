-- numbers near multiples, and their parts
pub mod Near
-- parts make up the number, and how large they are
pub mod Bounds
-- a hint recovers the high part
pub mod HintLaw
-- sums of powers as products
pub mod Geometric
-- sums in another order
pub mod Permuted
-- the powers of the roots
pub mod Roots
-- the sums of the powers of the roots
pub mod Cross
-- the transform and its inverse undo each other
pub mod Inverse
-- the transform keeps sums
pub mod SumLaw
-- the transform of a product
pub mod ProductLaw
-- the layers of this transform as stages
pub mod Stages
-- eight layers
pub mod Eight
-- the table of the zetas
pub mod ZetaTable
-- the loop over the butterflies of a layer
pub mod LayerLoop
-- the loops over the groups of a layer and over the butterflies of a group
pub mod GroupLoop
-- a list that is multiplied
pub mod Multiples
-- eight layers back
pub mod EightBack
-- a list that is copied
pub mod Copies
