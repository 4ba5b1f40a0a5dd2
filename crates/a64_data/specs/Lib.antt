pub mod Marks
pub mod Cells
