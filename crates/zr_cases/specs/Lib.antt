pub mod Cases
pub mod Forms
pub mod FormLaws
pub mod Trees
