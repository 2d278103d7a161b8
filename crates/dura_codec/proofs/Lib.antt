pub mod Fronts
pub mod Several
pub mod Steps
pub mod Texts
