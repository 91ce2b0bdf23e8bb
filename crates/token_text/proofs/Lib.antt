pub mod Tests
pub mod Texts
