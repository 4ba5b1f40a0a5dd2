pub mod Readings
pub mod Names
pub mod FormReads
pub mod Prints
pub mod Words
pub mod ShownLines
pub mod OneLine
pub mod OneListing
