pub mod Behind
pub mod Effects
pub mod Moves
pub mod Pending
