pub mod Tests
pub mod Barge
