pub mod Same
pub mod Onto
pub mod Examples
