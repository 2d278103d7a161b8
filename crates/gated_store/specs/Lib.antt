pub mod Causal
pub mod Commits
pub mod Following
pub mod Follows
pub mod Kept
pub mod Keeps
pub mod Settled
