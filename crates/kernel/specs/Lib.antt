pub mod Blank
pub mod Link
pub mod Part
pub mod Copy
pub mod Tail
pub mod Room
