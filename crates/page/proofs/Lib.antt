pub mod PageHistory
mod Edits
