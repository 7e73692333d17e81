pub mod Heads
pub mod Blocks
pub mod Records
pub mod Told
pub mod Lists
pub mod Laws
