-- the laws of `<`
pub mod Order
