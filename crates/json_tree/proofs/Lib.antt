pub mod Items
pub mod Members
pub mod Numbers
pub mod Parts
