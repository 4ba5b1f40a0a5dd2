pub mod LabelUses
pub mod FarJumps
pub mod LabelLaws
