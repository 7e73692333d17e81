pub mod Calls
pub mod Histories
pub mod Laws
