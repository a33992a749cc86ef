pub mod Places
pub mod Items
pub mod Walks
pub mod Behind
pub mod Borrowed
pub mod Keys
pub mod TermLaws
