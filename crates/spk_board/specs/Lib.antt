pub mod Data
pub mod Deeds
pub mod Happening
