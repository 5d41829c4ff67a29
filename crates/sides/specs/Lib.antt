pub mod Rows
pub mod Adopt
pub mod Count
