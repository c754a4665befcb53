mod Fine
mod Given
mod Room
mod Held
mod First
