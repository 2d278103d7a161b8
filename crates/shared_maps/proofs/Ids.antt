-- The order of ids tells them apart.
pub use Rattle.shared_trees.proofs.Ids.{is_key, key_again, plain_again, same_id}
