pub mod Places
pub mod Starts
pub mod Ends
pub mod Faults
pub mod Chosen
pub mod Runs
