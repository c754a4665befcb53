pub mod Fronts
pub mod Lengths
mod Names
pub mod Numbers
mod Sums
mod Whole
