pub mod Begins
pub mod ByHand
pub mod Causes
pub mod Examples
pub mod Leaves
pub mod Requests
