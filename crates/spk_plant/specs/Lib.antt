pub mod Start
pub mod Done
pub mod Report
pub mod Choice
