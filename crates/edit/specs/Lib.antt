pub mod Across
pub mod Queue
