pub mod Printers
pub mod Counting
pub mod Lending
