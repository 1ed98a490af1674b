-- sums, differences and products of polynomials
pub mod Ring
-- products in the transform domain
pub mod Pairs
-- sums and products of vectors and matrices
pub mod Vectors
-- numbers as lists of bits
pub mod Bits
-- numbers packed into bytes
pub mod Groups
-- products that an independent model worked
pub mod Worked
-- proofs that an `impl` cites: no definitions
pub mod private
