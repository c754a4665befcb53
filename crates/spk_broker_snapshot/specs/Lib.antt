pub mod Lines
pub mod Together
