pub mod Done
pub mod Ends
pub mod Serves
pub mod Sound
