pub mod Cells
pub mod KnownMarks
pub mod KnownReaders
pub mod Moved
pub mod ReadOn
pub mod Said
pub mod Giving
