pub mod Sides
pub mod Fences
