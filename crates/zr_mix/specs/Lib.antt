pub mod Mixtures
pub mod Steps
pub mod Claims
pub mod Values
pub mod Multiples
pub mod Checks
