pub mod Cuts
pub mod Plain
