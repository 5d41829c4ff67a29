pub mod Filling
pub mod Starts
