pub mod Keyed
pub mod Data
pub mod Indexed
pub mod Prepared
pub mod Inside
pub mod Plain
pub mod Rebirth
