pub mod Ends
pub mod Passes
