pub mod Line
pub mod Record
