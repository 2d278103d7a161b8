pub mod Counting
pub mod CutStreams
pub mod Finding
pub mod Going
pub mod Indexing
pub mod Keeping
pub mod Losing
pub mod Placing
