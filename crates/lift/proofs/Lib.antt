pub mod Known
pub mod Put
pub mod Tail
pub mod Call
pub mod Valid
pub mod Planned
pub mod Carried
