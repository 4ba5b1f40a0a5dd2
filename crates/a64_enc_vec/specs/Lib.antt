pub mod Named
pub mod Operands
pub mod RawBits
pub mod Registers
pub mod VectorOperators
pub mod Shifts
