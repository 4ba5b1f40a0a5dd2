pub mod Relocs
pub mod Halves
