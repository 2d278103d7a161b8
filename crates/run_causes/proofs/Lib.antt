pub mod LastDigit
pub mod Parts
