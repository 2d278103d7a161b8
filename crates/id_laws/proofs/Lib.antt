pub mod IdFronts
pub mod IdsBack
pub mod Order
pub mod PairFronts
pub mod WordFronts
