pub mod Done
pub mod Filing
pub mod Bounding
pub mod Whole
