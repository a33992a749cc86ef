pub mod Grown
pub mod Flat
pub mod VariablesBack
pub mod RowsBack
pub mod CostsBack
pub mod FollowersBack
pub mod SourceBack
