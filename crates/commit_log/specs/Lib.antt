pub mod Frames
pub mod Fronts
pub mod Outcomes
pub mod Reading
pub mod Segment
pub mod States
pub mod Writing
