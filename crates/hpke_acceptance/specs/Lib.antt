-- what the tests alone cite
pub mod private
