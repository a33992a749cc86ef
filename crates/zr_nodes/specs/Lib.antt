pub mod Lists
pub mod Forests
pub mod Places
pub mod Kin
pub mod Whole
