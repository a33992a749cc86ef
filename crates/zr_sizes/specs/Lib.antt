pub mod Sizes
pub mod Worked
