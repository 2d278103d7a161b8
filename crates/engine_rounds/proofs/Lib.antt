pub mod Adding
mod Filled
mod Given
mod Heard
mod Opens
