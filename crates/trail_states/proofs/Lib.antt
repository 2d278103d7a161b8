mod Shown
pub mod States
