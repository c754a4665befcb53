pub mod Data
pub mod Events
pub mod Gaps
pub mod Order
pub mod Standing
pub mod Told
