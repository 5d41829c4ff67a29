pub mod Blocks
pub mod Wiring
pub mod Wired
pub mod Visiting
