pub mod Values
pub mod Answers
pub mod Causes
pub mod Splits
pub mod Fates
pub mod Found
mod Halts
