pub mod Header
pub mod Widths
