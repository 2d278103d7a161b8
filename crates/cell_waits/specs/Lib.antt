pub mod CutStreams
pub mod Indices
pub mod Keys
pub mod Waits
