pub mod Noted
pub mod Operands
pub mod Unread
