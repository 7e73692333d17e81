pub mod Copies
pub mod Lines
