pub mod MaskLaws
pub mod ReachLaws
pub mod Ends
