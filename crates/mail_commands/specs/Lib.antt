-- the words of a command
pub mod Command
-- the input of a command
pub mod Input
-- the line of why a run wrote no items
pub mod Lines
-- what a command ends with, and what a run owes
pub mod Due
-- what a run took of its source
pub mod Taken
-- a run of a command: what it ended with, told and took
pub mod Run
-- what private calls answer: no public clause cites it
pub mod private
