pub mod Numbered
pub mod Wholes
pub mod Sorted
pub mod Counted
