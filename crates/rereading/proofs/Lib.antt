pub mod Words
pub mod OldLines
pub mod Rereads
pub mod Rooms
pub mod Loops
pub mod Ends
