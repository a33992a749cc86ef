pub mod Lists
pub mod Results
pub mod Rays
pub mod Naming
