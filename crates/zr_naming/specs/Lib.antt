pub mod Starts
pub mod Items
pub mod Causes
pub mod Offers
