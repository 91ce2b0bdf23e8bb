pub mod Words
pub mod Rereads
pub mod Sinks
