pub mod Call
pub mod Next
pub mod Rows
pub mod Count
pub mod Write
pub mod Cell
