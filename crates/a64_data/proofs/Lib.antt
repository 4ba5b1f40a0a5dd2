pub mod Marking
pub mod Runs
pub mod Forms
pub mod Placing
pub mod Items
