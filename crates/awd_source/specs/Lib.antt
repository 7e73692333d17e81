pub mod Bytes
pub mod Copies
pub mod Fields
pub mod Holders
pub mod Numbers
pub mod Pages
