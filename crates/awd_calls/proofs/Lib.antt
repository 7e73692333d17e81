pub mod Hexadecimal
pub mod Numbers
pub mod Words
