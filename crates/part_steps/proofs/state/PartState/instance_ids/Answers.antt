use Rattle.part_rows.specs.Views.{row_of}
use Rattle.shared_maps.specs.Maps.{by_id, has_id}
use Rattle.part_steps.proofs.Looking.{tests_seen}
use Rattle.part_steps.proofs.state.PartState.instance_ids.Goals as goal

pub returns : goal.returns
returns c = tests_seen row_of (by_id c.args.self.now.rows.instances) (has_id c.in_ok-ids.ids) c.in_ok-ids.ensures
