pub mod Labels
pub mod Serving
