pub mod Deliveries
pub mod Entries
pub mod Legal
pub mod Partition
pub mod Placed
pub mod Sends
pub mod Steps
pub mod World
