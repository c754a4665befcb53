pub mod Fault
pub mod File
pub mod Journal
pub mod Read
