pub mod Cuts
pub mod Cutting
pub mod Headings
