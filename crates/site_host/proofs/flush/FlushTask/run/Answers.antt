use Rattle.std.proofs.Common.{◌≡◌, true, Ok, Err, refl}
use Rattle.std.specs.Prelude.{OnOk}
use Rattle.site_host.specs.Flush.{is_safe}
use Rattle.site_host.proofs.flush.FlushTask.run.Goals as goal

-- What the system answered is believed. Nothing but this answer looks into `is_safe`.
pub returns-in-Some : goal.returns-in-Some
unfolding is_safe
returns-in-Some c = elim c.sync_all.result as (λ r. OnOk r (is_safe c.args._round c.args.self.now.number ≡ true)) [ Ok done ↦ refl | Err error ↦ tt ]
