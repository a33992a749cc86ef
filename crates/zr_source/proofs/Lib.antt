pub mod FormTests
pub mod NameTests
pub mod Alone
pub mod ExampleLaws
pub mod ExampleForms
