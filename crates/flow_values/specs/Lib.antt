pub mod Answers
pub mod Expressions
pub mod Faults
pub mod Paths
pub mod Values
