pub mod SizeLaws
pub mod ValueLaws
pub mod PassLaws
