pub mod Gates
pub mod Labels
pub mod Names
pub mod Placing
pub mod Stands
pub mod Unplaced
