pub mod Values
pub mod Columns
pub mod Replies
pub mod Merged
pub mod Programs
