-- What private functions answer. No public clause cites it, and nothing here has to be believed.

-- a value or a refusal of judging
pub mod Answers
-- which error of a mail comes of a refusal to receive or to send
pub mod Causes
-- the stanzas of a mail
pub mod Opening
-- what sends come to
pub mod Sends
