pub mod Adding
pub mod Running
pub mod Agreeing
