pub mod Report
pub mod Summary
pub mod Sections
pub mod Kept
pub mod Putting
pub mod StubLines
pub mod LinkLines
