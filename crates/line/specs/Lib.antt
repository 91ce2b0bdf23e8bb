pub mod LineCuts
