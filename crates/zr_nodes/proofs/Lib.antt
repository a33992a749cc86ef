pub mod ListLemmas
pub mod Chains
pub mod Rows
pub mod Linked
pub mod Families
pub mod Growth
pub mod Parts
pub mod Kinship
