use Rattle.site_calls.proofs.Histories.{leaves_unseen, left_within, left_front, left_behind}
use Rattle.site_calls.proofs.laws.a_lost_write_leaves_what_was_unseen.Goals as goal

pub returns : goal.returns
returns c = record { content = leaves_unseen; within = left_within; front = left_front; behind = left_behind }
