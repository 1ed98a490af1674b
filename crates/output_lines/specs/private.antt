-- What private functions answer. No public clause cites it, and nothing here has to be believed.

-- what is held for a sink and handed over
pub mod Holding
