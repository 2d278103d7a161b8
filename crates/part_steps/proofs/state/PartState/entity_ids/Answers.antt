use Rattle.flow_messages.specs.Views.{entity_of}
use Rattle.shared_maps.specs.Maps.{by_id, has_id}
use Rattle.part_steps.proofs.Looking.{tests_seen}
use Rattle.part_steps.proofs.state.PartState.entity_ids.Goals as goal

pub returns : goal.returns
returns c = tests_seen entity_of (by_id c.args.self.now.rows.entities) (has_id c.in_ok-ids.ids) c.in_ok-ids.ensures
