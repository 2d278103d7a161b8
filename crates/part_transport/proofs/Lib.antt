pub mod Ordered
pub mod Placing
pub mod Seen
