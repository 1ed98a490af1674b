-- what a mail opens to
pub mod Mail
-- what the sealing of a mail makes
pub mod Sealing
-- stanzas that are sent in turn, and how a mail is sent
pub mod Sent
-- the text of a mail as a sender writes it
pub mod SenderText
-- which error of a mail comes of a refused key
pub mod Causes
-- what was taken of a source
pub mod Taken
-- what private calls answer: no public clause cites it
pub mod private
