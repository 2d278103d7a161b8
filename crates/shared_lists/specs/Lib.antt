pub mod Lists
pub mod Sequences
