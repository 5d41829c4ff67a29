pub mod Coord
pub mod Writing
pub mod Read
pub mod Spans
