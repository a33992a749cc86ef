pub mod Sources
pub mod Names
pub mod SourceForms
pub mod SourceFormLaws
pub mod Optimal
pub mod SourceEquilibria
pub mod Examples
