pub mod Lost
pub mod There
mod Three
