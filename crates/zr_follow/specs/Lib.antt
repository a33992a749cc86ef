pub mod Programs
pub mod Expansion
pub mod BaseParts
pub mod SameProfiles
