-- what a source and a sink of bytes mean
pub mod Outside
-- the counts of the adapters over the standard streams
pub mod Adapters
-- one stanza and its one spelling
pub mod Stanza
-- a header line, and its strings
pub mod Strings
-- proper prefixes of spellings
pub mod Front
-- the stanzas before the first `done`, within a budget
pub mod Reading
-- what receiving takes and gives
pub mod Receiving
-- what private functions compute: no public clause cites it
pub mod private
