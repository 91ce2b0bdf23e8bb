pub mod Held
pub mod Lines
pub mod Pages
pub mod Next
