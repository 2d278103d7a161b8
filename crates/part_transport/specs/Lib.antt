pub mod Examples
pub mod Fates
pub mod Histories
pub mod Lanes
pub mod Refusals
