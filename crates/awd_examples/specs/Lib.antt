pub mod Layout
pub mod Parts
pub mod Documents
pub mod Examples
pub mod Edits
