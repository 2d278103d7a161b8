pub mod Examples
pub mod Fronts
pub mod Heads
pub mod Kinds
pub mod Steps
pub mod Table
