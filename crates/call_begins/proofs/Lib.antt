pub mod Begins
pub mod Further
pub mod Going
pub mod Ledgers
pub mod Says
