pub mod Splice
pub mod Cell
