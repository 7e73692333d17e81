mod Digits
mod Indices
mod Joins
pub mod Parts
