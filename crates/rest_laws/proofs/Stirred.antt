-- A quiet world leaves nothing to do in any partition by itself.
use Rattle.std.proofs.Common.{◌≡◌, ◌∙◌, ◌<◌, ℕ, Bool, true, false, List, Option, Some, None, refl, sym, ap, subst}
use Rattle.std.specs.Prelude.{option_map}
use Rattle.dura_model.specs.Legal.{Quiet}
use Rattle.dura_model.specs.Partition.{Partition, first_in, shown, with_part}
use Rattle.dura_model.specs.Placed.{Belongs, AreShown}
use Rattle.dura_model.specs.Steps.{deliver}
use Rattle.dura_model.specs.World.{Activity}
use Rattle.dura_model.proofs.Kept.{item_lives}
use Rattle.dura_model.proofs.Shown.{item_labelled}
use Rattle.dura_value.specs.Items.{ran}
use Rattle.dura_value.specs.Messages.{Message}
use Rattle.flow_syntax.specs.Syntax.{Flows}
use Rattle.part_rows.specs.Open.{lets_in, NoneOpen}
use Rattle.part_rows.specs.Timers.{NoTimer}
use Rattle.part_steps.specs.Enabled.{stamp_at}
use Rattle.part_steps.specs.Quiet.{NoActivity, IsQuiet}
use Rattle.part_steps.proofs.Enabling.{open_enabled}
use Rattle.rest_laws.specs.Rest.{HasRead, AreAtRest}

module _ (flows : Flows) (requests : List Message) (count : ℕ) (parts : ℕ → Partition) (shows : AreShown count parts) (quiet : Quiet flows requests (shown flows count parts)) where
  module _ (place : ℕ) (low : place < count) where
    abbrev p : Partition
    p = parts place

    belongs : Belongs count place p
    belongs = shows.each place low

    -- a message that its receiver takes is delivered at some stamp
    closed : NoneOpen p
    closed from to body found = by (lets_in p.entities from to) refl
      where
        by : (lets : Bool) → lets_in p.entities from to ≡ lets → lets_in p.entities from to ≡ false
        by false is = is
        by true is =
            let stamp = stamp_at p 0 in
            let enabled = open_enabled count place p belongs 0 flows from to (record { body = body; first = found; taken = is }) in
            let lives = item_lives flows count parts place (ran from to stamp) enabled.next to shows low refl enabled.taken in
            let given : first_in p.queue from to ≡ None → ⊥ = λ empty. let wrong : Some body ≡ None = sym found ∙ empty in cc wrong in
            let wrong : Some (shown flows count (with_part parts place enabled.next)) ≡ None =
            sym (ap (option_map (λ (next : Partition). shown flows count (with_part parts place next))) enabled.taken)
            ∙ item_labelled flows count parts place (ran from to stamp) (deliver from to stamp) to shows low refl refl lives given
            ∙ quiet.delivered from to stamp in
            absurd (cc wrong)

    none_pending : NoActivity p
    none_pending id task = by (p.activities id task) refl
      where
        by : (found : Option Activity) → p.activities id task ≡ found → p.activities id task ≡ None
        by None is = is
        by (Some activity) is = subst (λ (n : ℕ). (parts n).activities id task ≡ None) (belongs.rows.pending id task activity is) (quiet.finished id task)

    none_due : NoTimer p.timers
    none_due id task = by (p.timers id task) refl
      where
        by : (found : Option ℕ) → p.timers id task ≡ found → p.timers id task ≡ None
        by None is = is
        by (Some due) is = subst (λ (n : ℕ). (parts n).timers id task ≡ None) (belongs.rows.due id task due is) (quiet.fired id task)

    pub each_quiet : IsQuiet (parts place)
    each_quiet = record { deliveries = closed; activities = none_pending; timers = none_due }

  pub all_at_rest : ((source reader : ℕ) → source < count → reader < count → HasRead parts source reader) → AreAtRest count parts
  all_at_rest read = record { quiet = each_quiet; read = read }
