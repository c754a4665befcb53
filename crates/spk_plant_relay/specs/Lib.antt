pub mod Due
pub mod Given
pub mod Origins
pub mod Relayed
pub mod Senders
pub mod Shown
pub mod Speech
pub mod Topics
