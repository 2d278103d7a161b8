pub mod Brought
pub mod Happened
pub mod Names
pub mod Said
pub mod Settling
pub mod Worlds
pub mod Written
