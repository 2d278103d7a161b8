-- Where something is kept, as trees have it.
pub use Rattle.shared_trees.specs.Places.{Place, is_before, is_same}
