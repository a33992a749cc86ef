pub mod Spelling
pub mod Fits
pub mod Words
pub mod Reader
pub mod Code
