pub mod Sizes
pub mod Scans
pub mod Shown
