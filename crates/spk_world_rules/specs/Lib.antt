pub mod Events
pub mod Queries
pub mod Refusals
pub mod Claims
pub mod Answers
pub mod Files
