pub mod Standing
pub mod SetLaws
pub mod RunLaws
pub mod ShapeLaws
pub mod Locality
pub mod Steps
pub mod FaultPlaces
pub mod FirstFaults
