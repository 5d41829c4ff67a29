pub mod Any
pub mod Every
pub mod Pair
pub mod Row
pub mod Same
pub mod Tried
pub mod Ranges
