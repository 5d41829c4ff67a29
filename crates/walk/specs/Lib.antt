pub mod Walk
pub mod Seek
