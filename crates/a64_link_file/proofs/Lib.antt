pub mod Lines
pub mod Counts
pub mod Answered
pub mod Likeness
