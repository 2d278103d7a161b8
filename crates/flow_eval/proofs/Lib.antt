pub mod Parts
pub mod Places
pub mod Sequences
pub mod TextBytes
