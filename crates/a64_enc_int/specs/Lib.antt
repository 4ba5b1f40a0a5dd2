pub mod Branches
pub mod Named
pub mod Operators
pub mod RawBits
pub mod Registers
