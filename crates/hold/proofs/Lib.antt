pub mod Rows
pub mod Room
pub mod Tables
pub mod Objects
pub mod Hold
pub mod Relinked
pub mod Stand
