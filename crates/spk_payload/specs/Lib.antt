pub mod Fault
pub mod Meaning
pub mod Faults
pub mod Reading
pub mod View
pub mod Typing
pub mod Spelling
