pub mod EntriesRead
pub mod EntriesTurned
pub mod FilesOpened
pub mod Fits
pub mod HeadersRead
pub mod LogsChecked
pub mod LogsChosen
pub mod NextFrames
