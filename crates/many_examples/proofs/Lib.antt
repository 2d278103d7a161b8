pub mod AtOnce
pub mod MakesBy
pub mod Ours
pub mod Placings
pub mod RulesBy
pub mod UnderWay
pub mod Unfounded
