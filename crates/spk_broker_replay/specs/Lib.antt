pub mod Parts
pub mod Replay
