mod Rows
mod Whole
mod Cases
mod Chains
mod Numbers
pub mod Courses
mod Moments
mod Records
mod Tellings
mod Told
mod Bytes
pub mod Known
mod Published
mod Alive
mod Farewells
mod Drains
mod Later
pub mod Several
