pub mod Places
pub mod Moments
pub mod Standing
pub mod Placed
pub mod Deaths
pub mod Consumed
pub mod Handed
