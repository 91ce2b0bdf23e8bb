pub mod Fronts
pub mod Plain
pub mod Words
pub mod Scans
