pub mod Spelling
pub mod Numbered
pub mod Fits
pub mod Reader
pub mod Faults
pub mod Code
