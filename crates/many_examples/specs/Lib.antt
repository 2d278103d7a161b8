pub mod Pairs
pub mod Placings
pub mod RulesBy
pub mod Splits
