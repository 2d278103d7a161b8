pub mod Counts
pub mod Goes
mod Names
pub mod Inner
pub mod Queues
