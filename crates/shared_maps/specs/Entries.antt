-- What is kept, as trees have it.
pub use Rattle.shared_trees.specs.Entries.{Entries, find}
