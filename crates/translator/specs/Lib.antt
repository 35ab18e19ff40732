pub mod Grants
pub mod Truth
pub mod Fences
pub mod Rules
pub mod Walked
pub mod Firsts
pub mod Walks
