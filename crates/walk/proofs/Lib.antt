pub mod Holding
pub mod Pieces
pub mod Seeking
pub mod Walking
