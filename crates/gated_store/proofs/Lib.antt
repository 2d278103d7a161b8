pub mod Fitting
pub mod Moving
pub mod Grounds
pub mod Settles
pub mod Saying
pub mod Uncut
pub mod Whole
pub mod Written
