pub mod Cells
pub mod Comes
pub mod Known
pub mod Says
pub mod TakesOver
