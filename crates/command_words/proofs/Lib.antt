pub mod Commands
pub mod Decimals
pub mod Rows
