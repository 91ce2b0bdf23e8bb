pub mod StateLaws
pub mod States
pub mod Words
pub mod Sinks
pub mod SinkLaws
