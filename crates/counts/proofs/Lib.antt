pub mod Call
pub mod Written
