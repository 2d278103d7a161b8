-- The order of places.
pub use Rattle.shared_trees.proofs.Orders.{before_trans, both_equal, never, same_itself, same_number, same_place}
