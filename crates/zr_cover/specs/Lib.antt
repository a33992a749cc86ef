pub mod Covers
pub mod Causes
pub mod Splits
pub mod Fates
