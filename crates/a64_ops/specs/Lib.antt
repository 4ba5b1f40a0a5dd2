pub mod Names
pub mod Accesses
pub mod AccessFields
