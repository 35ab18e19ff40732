-- The definitions that the contracts of the C functions cite.
pub mod Results
pub mod Plays
pub mod Loads
