pub mod Drawing
pub mod Bare
pub mod Spreading
pub mod Celling
pub mod Turning
pub mod Sweeping
pub mod Standing
