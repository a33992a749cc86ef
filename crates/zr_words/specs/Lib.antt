pub mod Words
pub mod Commands
pub mod Arguments
pub mod Matches
