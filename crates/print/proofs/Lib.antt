pub mod Prints
pub mod Fields
