pub mod Answers
pub mod Audited
pub mod Listed
pub mod Records
pub mod Recorded
pub mod Words
