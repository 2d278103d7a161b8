pub mod Ids
pub mod Orders
pub mod Parts
pub mod Forks
pub mod Firsts
