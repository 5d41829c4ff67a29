pub mod Cutting
pub mod Counting
pub mod Writing
pub mod Rows
pub mod Plan
