pub mod Reading
pub mod Numbers
pub mod Lines
pub mod Fields
pub mod Bounds
pub mod Code
pub mod Stops
