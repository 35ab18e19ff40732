pub mod Accesses
pub mod Rights
