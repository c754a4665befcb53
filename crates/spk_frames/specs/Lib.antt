pub mod Fault
pub mod File
pub mod Frame
pub mod Numbers
pub mod Reading
pub mod Sum
