pub mod Gen
pub mod Commands
pub mod Run
pub mod Stages
pub mod Answering
pub mod Process
