pub mod Sparse
pub mod Links
pub mod Front
pub mod Swept
pub mod Cell
pub mod Held
pub mod Listed
pub mod Refused
