pub mod Begun
pub mod Moments
pub mod Opened
pub mod Picks
pub mod Ready
pub mod Spent
