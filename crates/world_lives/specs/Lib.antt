pub mod Begins
pub mod Lives
