pub mod AllValues
pub mod Places
pub mod Releases
