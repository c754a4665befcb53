pub mod Lengths
pub mod Same
pub mod Sizes
