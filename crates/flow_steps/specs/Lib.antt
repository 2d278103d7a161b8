pub mod Ends
pub mod Views
