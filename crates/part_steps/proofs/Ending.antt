-- When an activity is over or a timer fires, and what it makes then.
use Rattle.std.proofs.Common.{◌≡◌, ◌∙◌, ℕ, Bool, true, false, List, [], cond, Option, Some, None, refl, ap, sym}
use Rattle.std.specs.Prelude.{is_some, option_map}
use Rattle.dura_value.specs.declared.outcome.Outcome.{Outcome}
use Rattle.dura_value.specs.Ids.{Id}
use Rattle.dura_value.specs.Items.{ended, fired}
use Rattle.dura_value.specs.Messages.{Answer, Message}
use Rattle.flow_syntax.specs.Syntax.{Flows}
use Rattle.flow_syntax.specs.Machine.{resulted, fired as timer_fired}
use Rattle.dura_model.specs.World.{Orchestration, Activity}
use Rattle.dura_value.specs.ById.{at_number}
use Rattle.dura_model.specs.Deliveries.{goes_on_from}
use Rattle.dura_model.specs.Steps.{answer_of}
use Rattle.dura_model.specs.Partition.{Row, Partition, raised_to, instance_in, instance_at, stands_in, ended_in, fired_in, accepted}
use Rattle.part_steps.specs.Outputs.{Outputs, sent_at_end, sent_at_timer, outputs_by}
use Rattle.part_steps.specs.Reached.{fires_at}
use Rattle.dura_value.proofs.Basics.{some_same}

-- outputs without answers
abbrev pub alone : List Message → Outputs
alone sent = record { sent = sent; answers = [] }

module _ (flows : Flows) (count : ℕ) (p : Partition) (id : Id) (task : ℕ) where
  module _ (outcome : Outcome) where
    ended_by : (o : Option Orchestration) → ended_in flows count p id task outcome o None ≡ None
    ended_by None = refl
    ended_by (Some o) = refl

    pub not_pending : p.activities id task ≡ None → accepted flows count p (ended id task outcome) ≡ None
    not_pending is = ap (ended_in flows count p id task outcome (instance_at flows p id)) is ∙ ended_by (instance_at flows p id)

    pub not_there : instance_at flows p id ≡ None → accepted flows count p (ended id task outcome) ≡ None
    not_there is = ap (λ (o : Option Orchestration). ended_in flows count p id task outcome o (p.activities id task)) is

    -- the partition without the activity
    abbrev over_left : Partition
    over_left = record p { activities = at_number p.activities id task None }

    over_by : (o : Orchestration) (pending : Option Activity) → is_some pending ≡ true
        → ended_in flows count p id task outcome (Some o) pending ≡ Some (stands_in count over_left id o.machine.last (Some (resulted task (answer_of outcome))) (goes_on_from o (resulted task (answer_of outcome)) o.machine.last []))
    over_by o None is = absurd (cc is)
    over_by o (Some activity) is = refl

    -- what the instance makes of its answer, and how it stands then
    abbrev after_answer : ℕ → Partition → Orchestration → Answer → Partition
    after_answer of q o answer = stands_in of q id o.machine.last (Some (resulted task answer)) (goes_on_from o (resulted task answer) o.machine.last [])

    pub over : (o : Orchestration) (again : ℕ) (mid new : Partition) (answer : Answer) → instance_at flows p id ≡ Some o → is_some (p.activities id task) ≡ true → mid ≡ over_left → again ≡ count → answer ≡ answer_of outcome
        → new ≡ after_answer again mid o answer → accepted flows count p (ended id task outcome) ≡ Some new
    over o again mid new answer there pending mid_is count_is answer_is is =
        ap (λ (x : Option Orchestration). ended_in flows count p id task outcome x (p.activities id task)) there
        ∙ over_by o (p.activities id task) pending
        ∙ sym (ap Some (is
        ∙ ap (λ (k : ℕ). after_answer k mid o answer) count_is
        ∙ ap (λ (q : Partition). after_answer count q o answer) mid_is
        ∙ ap (after_answer count over_left o) answer_is))

    pub over_outputs : (o : Orchestration) (answer : Answer) (made : Outputs) → instance_at flows p id ≡ Some o → answer ≡ answer_of outcome → made ≡ alone (goes_on_from o (resulted task answer) o.machine.last []).sent
        → made ≡ outputs_by flows p (ended id task outcome)
    over_outputs o answer made there answer_is is =
        is ∙ ap (λ (a : Answer). alone (goes_on_from o (resulted task a) o.machine.last []).sent) answer_is ∙ sym (ap (λ (x : Option Orchestration). alone (sent_at_end x task outcome)) there)

  module _ (stamp : ℕ) where
    stays_by : (row : Option Row) (timer : Option ℕ) → fires_at row timer stamp ≡ false → fired_in flows count p id task stamp (option_map (instance_in flows id) row) timer ≡ None
    stays_by None timer is = refl
    stays_by (Some row) None is = refl
    stays_by (Some row) (Some due) is = ap (λ (b : Bool). cond b (Some (fired_after row)) None) is
      where
        fired_after : Row → Partition
        fired_after row = stands_in count (raised_to stamp (record p { timers = at_number p.timers id task None })) id stamp (Some (timer_fired task)) (goes_on_from (instance_in flows id row) (timer_fired task) stamp [])

    pub not_due : fires_at (p.instances id) (p.timers id task) stamp ≡ false → accepted flows count p (fired id task stamp) ≡ None
    not_due is = stays_by (p.instances id) (p.timers id task) is

    pub nobody_there : instance_at flows p id ≡ None → accepted flows count p (fired id task stamp) ≡ None
    nobody_there is = ap (λ (o : Option Orchestration). fired_in flows count p id task stamp o (p.timers id task)) is

    -- the partition without the timer, at this stamp
    abbrev fired_left : Partition
    fired_left = raised_to stamp (record p { timers = at_number p.timers id task None })

    -- what it becomes
    abbrev after_timer : ℕ → Partition → Orchestration → Partition
    after_timer of q o = stands_in of q id stamp (Some (timer_fired task)) (goes_on_from o (timer_fired task) stamp [])

    fires_by : (row : Option Row) (timer : Option ℕ) (o : Orchestration) → fires_at row timer stamp ≡ true → option_map (instance_in flows id) row ≡ Some o
        → fired_in flows count p id task stamp (option_map (instance_in flows id) row) timer ≡ Some (after_timer count fired_left o)
    fires_by None timer o is there = absurd (cc is)
    fires_by (Some row) None o is there = absurd (cc is)
    fires_by (Some row) (Some due) o is there =
        ap (λ (b : Bool). cond b (Some (after_timer count fired_left (instance_in flows id row))) None) is
        ∙ ap (λ (x : Orchestration). Some (after_timer count fired_left x)) (some_same there)

    pub fires : (o : Orchestration) → fires_at (p.instances id) (p.timers id task) stamp ≡ true → instance_at flows p id ≡ Some o → accepted flows count p (fired id task stamp) ≡ Some (after_timer count fired_left o)
    fires o is there = fires_by (p.instances id) (p.timers id task) o is there

    pub timer_fires : (o : Orchestration) (again : ℕ) (mid left new : Partition) → fires_at (p.instances id) (p.timers id task) stamp ≡ true → instance_at flows p id ≡ Some o → mid ≡ record p { timers = at_number p.timers id task None } → left ≡ raised_to stamp mid → again ≡ count
        → new ≡ after_timer again left o → accepted flows count p (fired id task stamp) ≡ Some new
    timer_fires o again mid left new is there mid_is left_is count_is new_is =
        fires o is there
        ∙ sym (ap Some (new_is
        ∙ ap (λ (k : ℕ). after_timer k left o) count_is
        ∙ ap (λ (q : Partition). after_timer count q o) (left_is ∙ ap (raised_to stamp) mid_is)))

    pub fired_outputs : (o : Orchestration) (made : Outputs) → instance_at flows p id ≡ Some o → made ≡ alone (goes_on_from o (timer_fired task) stamp []).sent → made ≡ outputs_by flows p (fired id task stamp)
    fired_outputs o made there is = is ∙ sym (ap (λ (x : Option Orchestration). alone (sent_at_timer x task stamp)) there)
