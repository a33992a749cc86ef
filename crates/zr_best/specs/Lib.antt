pub mod Best
pub mod Aims
pub mod Works
pub mod Causes
pub mod Halts
pub mod Tellings
