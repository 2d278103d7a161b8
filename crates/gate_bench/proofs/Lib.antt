pub mod Unlost
