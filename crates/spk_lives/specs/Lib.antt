pub mod Lives
pub mod Order
