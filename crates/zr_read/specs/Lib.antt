pub mod Rows
pub mod Costs
pub mod Followers
pub mod Passes
pub mod Seen
pub mod Texts
