-- the transform and its inverse, as sums
pub mod Transform
-- the transform by layers of butterflies
pub mod Layers
-- what the transforms by arrays are stated by
pub mod private
