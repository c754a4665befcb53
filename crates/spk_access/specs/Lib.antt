pub mod Covering
pub mod Rights
