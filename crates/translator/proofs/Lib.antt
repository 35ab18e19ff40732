pub mod Books
pub mod Truths
