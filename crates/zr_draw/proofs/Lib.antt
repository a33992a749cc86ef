pub mod Columns
pub mod Raw
pub mod Short
pub mod Tidied
