pub mod Remembered
pub mod Examples
