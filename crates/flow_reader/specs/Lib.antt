pub mod Answers
pub mod ByWord
pub mod Classes
pub mod Faults
pub mod Files
pub mod Names
pub mod Statements
