pub mod Depths
pub mod Leads
