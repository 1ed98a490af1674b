-- the laws of the test KEM
pub mod MaskLaws
-- the laws of the KEM of ML-KEM
pub mod LatticeLaws
