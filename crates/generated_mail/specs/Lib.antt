-- what is made of a number of messages
pub mod Made
-- what is told of the mail
pub mod Told
