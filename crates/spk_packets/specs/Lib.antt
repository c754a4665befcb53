pub mod Fault
pub mod Message
pub mod Grammar
pub mod Refusals
pub mod Reading
pub mod View
pub mod Spelling
pub mod Stream
