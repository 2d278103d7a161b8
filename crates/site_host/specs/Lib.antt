pub mod Flush
pub mod Host
