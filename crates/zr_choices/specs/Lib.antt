pub mod Parted
pub mod Programs
pub mod Asking
pub mod Signs
pub mod Merging
pub mod Drawn
pub mod Replies
pub mod Questions
