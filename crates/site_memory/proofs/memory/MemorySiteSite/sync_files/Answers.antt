use Rattle.std.proofs.Common.{◌∙◌, arith}
use Rattle.site_model.proofs.Syncing.{synced_one_more, synced_a_prefix}
use Rattle.site_memory.specs.Memory.{memory_history}
use Rattle.site_memory.proofs.memory.MemorySiteSite.sync_files.Goals as goal

pub returns-in-Err-clause-done : goal.returns-in-Err-clause-done
returns-in-Err-clause-done c =
    synced_a_prefix c.args.files.now c.loop-file.file-index (memory_history c.args.self.now) _ _ _ c.in-Err.failed (omega arith) c.loop-file.invariant.history c.in-Err.ensures.done

pub loop-file-preserved : goal.loop-file-preserved
loop-file-preserved c = record {
  history = synced_one_more c.args.files.now c.loop-file.file-index (memory_history c.args.self.now) _ _ (omega arith) c.loop-file.invariant.history c.in-Ok.ensures.done.ok;
  disk_faults = c.in-Ok.ensures.cause.same ∙ c.loop-file.invariant.disk_faults;
  say_faults = c.in-Ok.ensures.say_faults ∙ c.loop-file.invariant.say_faults;
}
