pub mod Draws
pub mod Packing
pub mod Following
pub mod Families
