pub mod Stepping
pub mod Items
pub mod Scanning
