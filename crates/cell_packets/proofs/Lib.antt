pub mod Numbered
pub mod Partitions
