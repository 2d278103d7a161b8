pub mod Counted
pub mod Lines
pub mod Places
pub mod Scalars
pub mod Texts
pub mod Used
