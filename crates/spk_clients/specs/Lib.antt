pub mod Client
pub mod Data
