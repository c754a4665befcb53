mod Groups
mod Values
pub mod Items
mod Loops
pub mod Shortest
