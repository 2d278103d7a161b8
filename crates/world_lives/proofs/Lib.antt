pub mod Begins
pub mod Going
pub mod NewLives
pub mod Passed
pub mod Saying
