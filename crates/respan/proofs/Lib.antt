pub mod Fill
pub mod Numbers
pub mod Spliced
pub mod Joined
pub mod Search
pub mod Cell
pub mod Edited
pub mod Numbered
