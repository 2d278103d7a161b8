pub mod Changes
pub mod Clients
pub mod Dues
pub mod Floats
pub mod Parts
pub mod Stays
