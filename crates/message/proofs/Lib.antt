pub mod Excerpts
pub mod Whole
