pub mod Requests
pub mod Rest
