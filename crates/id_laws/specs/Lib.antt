pub mod Begins
pub mod Forms
