pub mod Sheets
pub mod Walks
pub mod Documents
pub mod Edits
