pub mod Bytes
pub mod Keywords
pub mod Signs
pub mod Named
