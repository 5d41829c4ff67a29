pub mod Level
pub mod Upper
pub mod Tally
