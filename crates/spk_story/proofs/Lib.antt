pub mod Apart
pub mod Following
pub mod Kept
pub mod Opening
pub mod Rows
pub mod Steps
pub mod Totals
