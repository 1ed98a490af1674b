-- sums of coefficients with weights
pub mod Forms
-- polynomials that all such sums agree on
pub mod Units
-- vectors and matrices
pub mod Vectors
-- the two intervals
pub mod Intervals
-- what rounding changes
pub mod Changes
-- the parts of a ciphertext and of an encapsulation key
pub mod Parts
-- keys from seeds, and what is encrypted under them
pub mod Keys
-- what v' - s·u' is
pub mod Identity
-- what is decrypted
pub mod Decryption
-- what is decapsulated
pub mod Decapsulation
-- the laws
pub mod Results
-- the worked noise
pub mod Worked
