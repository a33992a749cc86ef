pub mod Faults
pub mod Values
pub mod Names
pub mod Terms
pub mod Formats
pub mod Variables
