pub mod Begun
pub mod Earlier
pub mod EndToEnd
pub mod Joined
pub mod Published
pub mod Rows
pub mod Survivors
