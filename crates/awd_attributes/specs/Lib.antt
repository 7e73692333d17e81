pub mod Attributes
pub mod Fields
pub mod Parts
pub mod Attribute
pub mod Reader
pub mod Filled
