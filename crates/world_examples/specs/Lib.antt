pub mod Courses
pub mod Histories
pub mod Worlds
