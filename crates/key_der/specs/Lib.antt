-- the encodings of DER
pub mod Der
-- keys as texts in DER
pub mod Keys
-- what reading such a text answers
pub mod Reading
-- what private calls answer: no definitions of what public calls do
pub mod private
