pub mod Agreeing
pub mod Rows
pub mod Skipped
