pub mod Adding
pub mod Assembled
pub mod Ending
pub mod Fitting
pub mod Replayed
pub mod Saying
pub mod Sources
