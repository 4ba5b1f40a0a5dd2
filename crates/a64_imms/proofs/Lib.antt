pub mod Bytes
pub mod Found
pub mod LogicRuns
pub mod Table
