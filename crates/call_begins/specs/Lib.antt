pub mod Begins
pub mod Says
