pub mod Asked
pub mod Causes
pub mod Comes
pub mod Complete
pub mod Faults
pub mod Served
