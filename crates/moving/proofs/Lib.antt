pub mod Moves
pub mod Shifts
