pub mod Block
pub mod Stead
pub mod Visit
