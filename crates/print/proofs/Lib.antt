pub mod Laid
pub mod Digits
pub mod Room
pub mod Lines
pub mod Printed
pub mod Liftrun
