-- sums over ranges
pub mod Sums
-- two rules whose lists are the same
pub mod Tables
-- the computed facts of the powers of 17
pub mod Roots
-- tables of weights that undo each other
pub mod Undo
-- lists pair by pair
pub mod Places
-- powers
pub mod Powers
-- powers of one root by those of another
pub mod Cross
-- the transform and its inverse undo each other
pub mod Inverse
-- the transform and its inverse make polynomials
pub mod Polynomials
-- the transform keeps sums
pub mod SumLaw
-- the weights of the powers of X in one pair
pub mod Weights
-- negation modulo q
pub mod Negation
-- sums of the coefficients of a product, modulo any q
pub mod Products
-- the transform of a product
pub mod ProductLaw
-- butterflies at places that differ
pub mod Butterflies
-- the places of a layer
pub mod Groups
-- the layers of this transform as stages
pub mod Stages
-- a layer on remainders, for any q and zetas
pub mod Remainders
-- seven layers
pub mod Seven
-- the tables of the zetas and of their quotients
pub mod ZetaTable
-- the loop over the butterflies of a layer
pub mod LayerLoop
-- the loops over the rows of a layer and over the columns of two rows
pub mod RowLoop
-- layers over rows, and the layers of the transform that they make
pub mod RowLayers
-- the seven layers over rows, and those back
pub mod SevenRows
-- rows that become columns
pub mod Across
-- a layer, undone up to a factor, for any q and zetas
pub mod Back
-- seven layers back
pub mod SevenBack
-- lists that a loop fills
pub mod Filled
-- compression by a multiplier
pub mod Multiplier
-- products by the quotient of one factor
pub mod Quotients
