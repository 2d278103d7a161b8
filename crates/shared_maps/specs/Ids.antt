-- Ids as parts of keys, as trees have them.
pub use Rattle.shared_trees.specs.Ids.{id_cmp, key_of}
