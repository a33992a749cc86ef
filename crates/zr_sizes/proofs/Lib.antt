pub mod Products
pub mod Parting
pub mod FewUnits
