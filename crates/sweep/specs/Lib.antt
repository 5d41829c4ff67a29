pub mod Drawn
pub mod Level
