pub mod Indents
pub mod Spaces
