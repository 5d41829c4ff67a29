pub mod Hold
pub mod Room
pub mod Rows
pub mod Stand
