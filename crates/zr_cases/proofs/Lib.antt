pub mod Whole
pub mod Forests
