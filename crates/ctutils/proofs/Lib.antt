-- lists that are chosen and compared place by place
pub mod Lists
-- the step of a search
pub mod Searching
-- orderings by their places
pub mod Orderings
