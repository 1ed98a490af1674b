-- What the calls compute, in reading order.
-- truth values, and what they are as bits and masks
pub mod Truth
-- differences of words
pub mod Words
-- proofs that `impl`s cite: no definitions
pub mod private
