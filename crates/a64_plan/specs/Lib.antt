pub mod Machine
pub mod Plans
pub mod Shapes
pub mod JumpMachine
