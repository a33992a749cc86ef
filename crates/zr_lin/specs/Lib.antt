pub mod DenseRows
pub mod Ineqs
pub mod Combinations
