pub mod Clashes
pub mod Order
pub mod Unsaid
