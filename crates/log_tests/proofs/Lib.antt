pub mod Going
pub mod Opened
