pub mod Streams
pub mod Flaws
pub mod SubGeometries
pub mod Filled
