pub mod Keys
pub mod Endings
pub mod Items
pub mod Fields
pub mod Cursors
pub mod Scans
