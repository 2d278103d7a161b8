pub mod Composed
pub mod Judged
pub mod Starting
