pub mod Climbs
pub mod FirstBlocks
pub mod Kin
