pub mod Counted
pub mod Replied
