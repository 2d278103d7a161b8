pub mod Ends
pub mod FileAsked
mod Labels
mod LineAsked
mod Lists
pub mod Told
pub mod Worlds
