pub mod Fronts
pub mod Opening
pub mod Settling
pub mod Shares
pub mod Steps
pub mod Taking
pub mod Views
