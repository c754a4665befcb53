pub mod Dues
pub mod Histories
