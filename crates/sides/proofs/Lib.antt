pub mod Counted
pub mod Taken
pub mod Raised
pub mod Adopted
