pub mod Writes
pub mod Told
pub mod Placed
pub mod Grown
pub mod Emptied
pub mod Across
pub mod Freed
