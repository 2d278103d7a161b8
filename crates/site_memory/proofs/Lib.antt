pub mod History
pub mod Picked
pub mod Place
pub mod Put
pub mod Start
