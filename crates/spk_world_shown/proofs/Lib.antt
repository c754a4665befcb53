pub mod Split
pub mod Marks
pub mod Seen
