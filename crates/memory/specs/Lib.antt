-- The definitions that the contracts of memories cite.
pub mod Words
pub mod Bytes
pub mod Keeping
