pub mod Kinds
pub mod Sequence
pub mod Addresses
pub mod FirstBlocks
pub mod Lookups
pub mod Table
