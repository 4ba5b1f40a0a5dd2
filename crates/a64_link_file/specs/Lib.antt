pub mod Entries
pub mod States
