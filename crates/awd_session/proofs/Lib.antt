pub mod Stays
pub mod Taken
pub mod Next
pub mod Changes
pub mod Made
pub mod Edited
pub mod Promised
pub mod Asked
