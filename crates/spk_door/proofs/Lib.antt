pub mod Saying
pub mod Users
