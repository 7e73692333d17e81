pub mod Runs
pub mod Led
