pub mod Depth
pub mod Plain
pub mod Round
pub mod Same
pub mod Streaming
