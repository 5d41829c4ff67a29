pub mod Key
pub mod Join
pub mod Gather
pub mod Gathered
