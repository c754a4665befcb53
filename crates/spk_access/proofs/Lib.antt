pub mod Bools
pub mod Cutting
pub mod Covered
pub mod Lists
