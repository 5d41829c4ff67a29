pub mod Lifted
pub mod Holding
