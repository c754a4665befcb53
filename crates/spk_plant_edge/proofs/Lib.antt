pub mod Stepping
pub mod Putting
pub mod Standing
pub mod Hearing
pub mod Leading
