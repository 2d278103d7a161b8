pub mod Answers
pub mod Founding
pub mod Histories
pub mod Joined
pub mod Living
pub mod Starting
