pub mod Written
pub mod Runs
pub mod Listed
pub mod Read
