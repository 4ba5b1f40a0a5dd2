pub mod Visits
pub mod Lists
pub mod Marks
pub mod Queries
