pub mod Paths
pub mod Parts
pub mod Branches
pub mod OpenTrees
pub mod Stuck
pub mod Drawn
