pub mod Fields
pub mod Sections
pub mod Symbols
pub mod Objects
