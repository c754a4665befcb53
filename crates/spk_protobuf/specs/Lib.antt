pub mod Fault
pub mod Grammar
pub mod Faults
pub mod Reading
pub mod View
pub mod Spelling
