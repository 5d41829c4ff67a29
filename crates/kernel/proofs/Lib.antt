pub mod Filled
pub mod Part
pub mod Signed
pub mod Copied
pub mod Cleared
