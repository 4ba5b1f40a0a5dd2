pub mod Entries
pub mod Verdicts
pub mod Judging
pub mod LineParts
