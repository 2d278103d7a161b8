pub mod Kinds
pub mod Memory
pub mod Picked
pub mod Place
pub mod Record
pub mod Start
pub mod Tick
