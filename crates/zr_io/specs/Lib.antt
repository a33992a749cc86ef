pub mod Contents
pub mod Faults
pub mod Memory
pub mod Purses
pub mod Written
