pub mod Refuting
pub mod Steps
pub mod Walks
pub mod Sums
pub mod Visits
pub mod Rooms
pub mod Covered
pub mod Flags
