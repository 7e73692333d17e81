pub mod Endings
pub mod Firsts
