-- the transform and its inverse, as sums, and the product in the transform domain
pub mod Transform
-- the transform by layers of butterflies
pub mod Layers
-- a number modulo q in a high and a low part, and hints
pub mod Rounding
