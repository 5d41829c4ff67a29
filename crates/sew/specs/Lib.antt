pub mod Label
pub mod Pairs
pub mod Sewing
