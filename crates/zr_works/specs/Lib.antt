pub mod Most
pub mod Worked
