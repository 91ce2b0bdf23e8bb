pub mod SearchLaws
pub mod GroupLaws
pub mod TableLaws
