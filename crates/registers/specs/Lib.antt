pub mod Registers
pub mod Tables
