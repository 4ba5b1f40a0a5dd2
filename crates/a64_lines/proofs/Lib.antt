pub mod Chains
pub mod Fronts
pub mod Takings
