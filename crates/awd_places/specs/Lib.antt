pub mod Chains
pub mod Covers
pub mod Laid
pub mod Numbers
