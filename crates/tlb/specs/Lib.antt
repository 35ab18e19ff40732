pub mod Ways
pub mod Tables
pub mod Layer
pub mod Laws
pub mod Standing
pub mod Books
