pub mod Assembly
pub mod Emitting
pub mod Forms
pub mod Numbers
