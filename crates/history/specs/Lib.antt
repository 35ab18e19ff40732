pub mod Moments
pub mod Plain
pub mod Asks
pub mod Settled
pub mod Runs
pub mod Theorem
pub mod Vocabulary
pub mod Consequences
