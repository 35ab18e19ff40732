pub mod Shape
pub mod Walk
pub mod Chain
pub mod Laws
