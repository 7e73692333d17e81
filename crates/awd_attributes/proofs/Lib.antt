pub mod Walks
pub mod Given
