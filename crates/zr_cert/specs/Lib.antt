pub mod Certs
pub mod Lines
pub mod Places
pub mod Forms
pub mod FormLaws
pub mod Listed
