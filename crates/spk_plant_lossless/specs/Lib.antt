pub mod Whole
pub mod Subscribed
