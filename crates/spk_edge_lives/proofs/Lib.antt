pub mod Careful
pub mod Disk
pub mod Lives
pub mod Rows
pub mod Said
pub mod Wanted
