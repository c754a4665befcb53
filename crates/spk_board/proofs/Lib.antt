pub mod Asked
pub mod Tales
