pub mod Begins
pub mod Desks
pub mod Each
pub mod Hubs
pub mod Lines
pub mod Ringing
pub mod Rings
pub mod Rows
