-- the lines of items, and of a fault
pub mod Lines
-- what private calls answer: no public clause cites it
pub mod private
