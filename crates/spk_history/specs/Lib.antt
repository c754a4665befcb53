pub mod Entries
pub mod Entry
pub mod Fault
pub mod File
pub mod Frame
pub mod Parts
pub mod Reading
pub mod Record
