-- What the calls mean, in reading order.
-- options that always hold a value
pub mod Options
-- what an option is once a reference to its value has been given back
pub mod Lending
-- what a search asks of its predicate
pub mod Search
-- proofs that `impl`s cite: no definitions
pub mod private
