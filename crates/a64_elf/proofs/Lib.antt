pub mod Laid
pub mod Whole
pub mod Faults
pub mod Stands
