pub mod Outcomes
pub mod Letting
pub mod Apart
pub mod Weaving
pub mod Bounded
