pub mod Answered
pub mod Known
pub mod Orders
pub mod Stands
