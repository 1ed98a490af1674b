-- what a copy's sink gets
pub mod Copies
-- what is seen of a source with a copy
pub mod Reader
-- what is seen of a sink with a copy
pub mod Writer
