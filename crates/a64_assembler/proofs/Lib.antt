pub mod Fresh
pub mod Marks
pub mod MadeRooms
pub mod Emitted
