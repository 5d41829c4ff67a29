pub mod Label
pub mod Pairs
pub mod Mapped
pub mod Paired
pub mod Refused
pub mod Agreeing
pub mod Fastened
pub mod Command
