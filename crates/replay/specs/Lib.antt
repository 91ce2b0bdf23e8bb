pub mod Fields
pub mod Fnv
pub mod Units
