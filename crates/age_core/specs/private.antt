-- What private functions compute. No public clause cites it, and nothing here has to be believed.

-- the tags that a phase is given
pub mod Tags
