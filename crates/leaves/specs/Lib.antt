pub mod Leaves
pub mod Lookups
pub mod Fences
