pub mod Rows
pub mod Row
pub mod All
