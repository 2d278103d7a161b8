pub mod Copying
pub mod Naming
pub mod Walking
