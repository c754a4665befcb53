pub mod Along
pub mod Heard
pub mod Parts
