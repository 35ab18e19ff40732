pub mod Host
pub mod Stages
pub mod Paths
pub mod Laws
