pub mod FarJumps
pub mod TwoFields
