-- The lemmas that the proofs of memories share.
pub mod Shown
pub mod Joins
pub mod Spelled
