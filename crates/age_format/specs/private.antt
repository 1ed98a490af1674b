-- What private functions compute. No public clause cites it, and nothing here has to be believed.

-- the scan that tells a front
pub mod Scan
-- the plain program that finds a stanza
pub mod Parse
