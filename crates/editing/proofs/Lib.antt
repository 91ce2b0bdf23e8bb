pub mod Mended
pub mod Edits
