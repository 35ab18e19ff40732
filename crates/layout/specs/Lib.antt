pub mod Checks
pub mod Tables
pub mod Changes
pub mod Sound
pub mod Finds
pub mod Laws
