pub mod Chains
pub mod Covers
pub mod Numbers
pub mod Walks
