pub mod Parts
pub mod Scalars
pub mod Texts
pub mod Trails
