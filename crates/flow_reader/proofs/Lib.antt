pub mod Blocks
pub mod Bytes
pub mod Counts
pub mod Known
pub mod Members
pub mod Pairs
pub mod Shapes
