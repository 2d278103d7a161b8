pub mod CellFacts
pub mod Offering
pub mod FrontReady
pub mod Frames
pub mod SentByEntries
pub mod StreamsTrimmed
pub mod TasksGiven
pub mod TasksOver
