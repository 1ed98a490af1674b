-- grease, as a stream of random numbers fixes it
pub mod Grease
-- what one send writes, and where the stream stands behind it
pub mod Sending
-- what private functions compute: no public clause cites it
pub mod private
