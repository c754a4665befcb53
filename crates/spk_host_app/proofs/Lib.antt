pub mod Along
pub mod Calls
pub mod Joins
pub mod Losing
pub mod Opening
pub mod Reading
pub mod Runs
pub mod Taking
