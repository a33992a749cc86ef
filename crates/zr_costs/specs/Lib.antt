pub mod Costs
pub mod Causes
pub mod Drawn
pub mod Halts
