pub mod Addresses
pub mod FinalModes
