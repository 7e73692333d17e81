pub mod Laws
pub mod Overlay
pub mod Spots
pub mod Table
