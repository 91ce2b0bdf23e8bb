pub mod LastLine
pub mod Scalars
pub mod Walks
