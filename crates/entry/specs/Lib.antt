pub mod Bits
pub mod Entry
