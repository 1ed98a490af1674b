-- what is seen of a connection
pub mod Connecting
-- what a phase gives to its commands
pub mod Phases
-- which stanzas are commands, and what each is answered by
pub mod Replies
-- what calls that receive and answer come to
pub mod Exchanges
-- what is seen of a reply that is owed
pub mod Replying
-- phases that send and await a reply to each stanza
pub mod Asking
-- what private functions compute: no public clause cites it
pub mod private
-- what is seen of a phase that sends
pub mod Sending
