pub mod Lists
pub mod Heads
pub mod Places
pub mod Numbers
pub mod DrawnNames
pub mod Crossings
pub mod PackingForms
pub mod FollowingForms
