pub mod Asked
pub mod Closes
pub mod Telling
