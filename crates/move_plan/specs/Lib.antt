pub mod Entries
pub mod Plans
pub mod Reading
pub mod Rows
