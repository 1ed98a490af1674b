-- the noise of a decryption, and the two intervals
pub mod Noise
-- a noise that an independent model worked
pub mod Worked
