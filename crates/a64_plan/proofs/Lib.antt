pub mod Bound
pub mod Counts
pub mod Kept
pub mod Moves
pub mod Shortest
pub mod Jumps
