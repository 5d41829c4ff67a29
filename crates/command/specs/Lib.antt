pub mod Flat
pub mod Operands
