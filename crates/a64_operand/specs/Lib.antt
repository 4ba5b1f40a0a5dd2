pub mod Operands
pub mod IntegerOperands
pub mod FloatOperands
pub mod VectorOperands
pub mod AtomicOperands
