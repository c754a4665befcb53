pub mod Along
pub mod Front
