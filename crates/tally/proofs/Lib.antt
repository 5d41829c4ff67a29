pub mod Found
pub mod Turns
pub mod Uppers
pub mod Levels
