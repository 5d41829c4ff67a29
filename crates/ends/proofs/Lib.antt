pub mod Keys
pub mod Parts
pub mod Union
pub mod Joining
pub mod Holding
pub mod Rows
pub mod Gathering
