pub mod PartSums
pub mod PartValues
pub mod PresentRows
