pub mod Points
pub mod Tidy
pub mod Merges
pub mod Places
