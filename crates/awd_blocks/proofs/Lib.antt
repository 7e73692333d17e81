pub mod Headers
pub mod Bodies
pub mod Whole
pub mod Names
pub mod Steps
pub mod Next
pub mod Rows
pub mod Told
