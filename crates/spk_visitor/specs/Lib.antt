pub mod Data
pub mod Next
pub mod Replies
pub mod Rules
pub mod View
