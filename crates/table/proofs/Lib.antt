mod Superpages
pub mod Descents
pub mod Chains
mod WordsRead
