pub mod Activities
pub mod Chance
pub mod Table
