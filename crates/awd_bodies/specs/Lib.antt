pub mod Fields
pub mod Scene
pub mod Groups
pub mod Skeletons
pub mod Filled
