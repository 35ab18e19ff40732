pub mod Shapes
pub mod Plains
pub mod Tails
pub mod Spelling
pub mod Exits
