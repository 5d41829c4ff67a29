pub mod Cross
pub mod Read
pub mod Pair
pub mod Blocks
pub mod Touch
pub mod Same
