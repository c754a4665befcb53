pub mod Part
pub mod Numbered
pub mod Handed
pub mod Steps
