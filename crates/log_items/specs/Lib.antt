pub mod Entries
pub mod Plain
pub mod Readings
pub mod Streams
