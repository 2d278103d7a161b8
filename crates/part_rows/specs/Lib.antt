pub mod Accepts
pub mod Open
pub mod Parts
pub mod Queues
pub mod Reactions
pub mod Timers
pub mod Views
