pub mod Data
pub mod Tests
pub mod Step
pub mod Fresh
pub mod Run
pub mod Sending
