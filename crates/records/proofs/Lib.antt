pub mod Widths
pub mod Stores
pub mod Words
pub mod Takes
pub mod RecordTakes
