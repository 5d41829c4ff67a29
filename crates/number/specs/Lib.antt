pub mod Beside
pub mod Count
pub mod First
pub mod Own
pub mod Targets
