pub mod Answering
pub mod Frames
pub mod Running
pub mod Items
mod Rows
pub mod Ending
