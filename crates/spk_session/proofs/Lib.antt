pub mod CircleLemmas
pub mod Histories
pub mod IdLemmas
pub mod PartLemmas
pub mod Rows
pub mod Undone
