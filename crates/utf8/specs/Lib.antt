pub mod Second
pub mod Value
pub mod Passed
