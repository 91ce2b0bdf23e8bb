pub mod Starts
pub mod Begins
pub mod Plans
pub mod Edits
