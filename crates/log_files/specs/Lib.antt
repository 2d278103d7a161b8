pub mod Checked
pub mod Entries
pub mod Fitting
pub mod Fronts
