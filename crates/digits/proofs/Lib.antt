pub mod Hexes
pub mod Reading
