pub mod Depends
pub mod Lives
pub mod Made
