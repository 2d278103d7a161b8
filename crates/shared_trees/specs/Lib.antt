pub mod Ids
pub mod Places
pub mod Entries
pub mod Tree
