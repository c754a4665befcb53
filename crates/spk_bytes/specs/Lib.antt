pub mod Piece
pub mod Packet
