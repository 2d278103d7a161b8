pub mod Commutes
