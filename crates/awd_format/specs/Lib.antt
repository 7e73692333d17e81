pub mod Sets
pub mod Runs
pub mod Shapes
pub mod FirstFaults
pub mod Laws
pub mod Readings
