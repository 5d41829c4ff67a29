pub mod Bits
pub mod Copy
pub mod Place
