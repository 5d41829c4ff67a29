pub mod Ends
pub mod Faultless
pub mod Judged
pub mod More
