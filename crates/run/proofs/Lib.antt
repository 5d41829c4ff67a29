pub mod Ahead
pub mod Going
pub mod Kept
pub mod Begun
pub mod Left
