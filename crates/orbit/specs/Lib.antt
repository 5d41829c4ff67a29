pub mod Sparse
pub mod Flood
