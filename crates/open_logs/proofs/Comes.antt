-- What opening the logs of all partitions comes to.
use Rattle.std.proofs.Common.{◌≡◌, ◌≤◌, ◌<◌, ◌^◌, inl, inr, ℕ, List, length, get_or, Some, None, refl, sym, ◌∙◌, ap, subst, arith}
use Rattle.std.specs.List.{slice_get}
use Rattle.std.proofs.lemmas.Option.{get_or_from_slice_get, slice_get_within}
use Rattle.dura_model.specs.Entries.{next_incarnation}
use Rattle.dura_value.specs.Items.{Entry}
use Rattle.flow_syntax.specs.Syntax.{Flows}
use Rattle.log_files.specs.Fronts.{synced_to, AreSyncs}
use Rattle.many_logs.proofs.OrdersStand.{logs_numbered}
use Rattle.many_logs.specs.Placing.{Commit}
use Rattle.many_logs.specs.Stands.{AreKept}
use Rattle.many_rules.specs.Leaves.{Begins}
use Rattle.many_rules.specs.Rules.{Rules}
use Rattle.open_logs.specs.Begun.{CanBegin, MadeBy, IsMade}
use Rattle.open_logs.specs.Moments.{IsOpening, OpensOnly, KeepsAll}
use Rattle.open_logs.specs.Opened.{BeginsBy, AllOpened}
use Rattle.open_logs.specs.Picks.{origin_of}
use Rattle.open_logs.specs.Ready.{AreOfLives, HasOpened}
use Rattle.open_logs.specs.Spent.{IsFirstSpent, IsSpent, OnlySynced}
use Rattle.open_logs.specs.declared.error.OpenError.TheVariants.{Refused}
use Rattle.open_logs.specs.declared.begun.Begun.{Begun}
use Rattle.open_logs.specs.declared.formatting.Ready.{Ready}
use Rattle.open_logs.proofs.Begins.{AreOpenedLogs, has_begun, begins_there}
use Rattle.open_logs.proofs.Goes.{state_goes, same_entries, run_made, past_is, next_is}
use Rattle.open_logs.proofs.Pushed.{element}
use Rattle.open_logs.proofs.Syncs.{syncs_open, synced_silent, synced_others}
use Rattle.part_items.specs.Logs.{first_log, second_log}
use Rattle.part_steps.specs.States.{parts_in}
use Rattle.recover_core.specs.Recovering.{AreOpened, CanGoOn, WerePlaced}
use Rattle.recover_core.specs.declared.ending.Life.{Life}
use Rattle.recover_core.specs.Rounds.{IsOutside}
use Rattle.recover_core.specs.declared.error.RecoverError.{RecoverError}
use Rattle.recover_core.specs.declared.error.RecoverError.TheVariants.{Damaged, OtherShape, OtherFlows, Illegal, Unclosed, SiteFault, Memory}
use Rattle.recover_core.specs.declared.recovery.Opened.{Opened}
use Rattle.site_model.specs.History.{Step, content_of, AllInside}
use Rattle.site_model.specs.Moments.{Always}
use Rattle.site_model.proofs.Paths.{together, weaker}

-- what a life begins with
abbrev pub begun_of : Opened → Ready → Begun
begun_of opened ready = record { states = opened.states; logs = ready.logs; pasts = ready.pasts; incarnations = ready.incarnations }

module _ (count : ℕ) (opened : Opened) (ready : Ready) (can : CanGoOn count opened) (are : AreOfLives opened.lives.items ready) where
  -- the life of a partition
  life_at : (partition : ℕ) → partition < length opened.lives.items → (life : Life) × (slice_get opened.lives.items partition ≡ Some life)
  life_at partition low = element opened.lives.items partition low

  at_past : (partition : ℕ) (past : List ℕ) → slice_get ready.pasts.items partition ≡ Some past → (life : Life) × (slice_get opened.lives.items partition ≡ Some life) × (past ≡ life.past)
  at_past partition past at =
      let low = slice_get_within ready.pasts.items partition past at in
      let one = life_at partition (let many = are.pasts in omega (arith, low, many)) in
      (one.0, one.1, are.past partition one.0 past one.1 at)

  at_incarnation : (partition incarnation : ℕ) → slice_get ready.incarnations.items partition ≡ Some incarnation → (life : Life) × (slice_get opened.lives.items partition ≡ Some life) × (incarnation ≡ life.incarnation)
  at_incarnation partition incarnation at =
      let low = slice_get_within ready.incarnations.items partition incarnation at in
      let one = life_at partition (let many = are.incarnations in omega (arith, low, many)) in
      (one.0, one.1, are.incarnation partition one.0 incarnation one.1 at)

  pub can_begin : IsFirstSpent opened.lives.items None → CanBegin count (begun_of opened ready)
  can_begin young = record {
    all = can.all;
    states = can.many;
    logs = are.logs ∙ can.lives;
    pasts = are.pasts ∙ can.lives;
    incarnations = are.incarnations ∙ can.lives;
    young = λ partition incarnation at.
        let one = at_incarnation partition incarnation at in
        subst (λ (n : ℕ). n < 2 ^ 62) (sym one.2) (young partition one.0 (slice_get_within opened.lives.items partition one.0 one.1) one.1);
    younger = λ partition incarnation at.
        let one = at_incarnation partition incarnation at in
        subst (λ (n : ℕ). (parts_in opened.states.items partition).incarnation ≤ n) (sym one.2) (can.younger partition one.0 one.1);
    counted = λ partition past at.
        let one = at_past partition past at in
        can.counted partition one.0 one.1 ∙ ap length (sym one.2);
  }

  -- the entries that were placed made it
  pub is_made : (flows : Flows) (digest : ℕ) (before after : Type 0) (files : ℕ → List ℕ) → (after → before) → WerePlaced flows count digest before files opened → IsMade flows count digest after files (begun_of opened ready)
  is_made flows digest before after files told placed = (
    placed.run,
    record {
      below = placed.below;
      made = placed.made;
      numbered = placed.numbered;
      past = λ partition past at. let one = at_past partition past at in one.2 ∙ placed.past partition one.0 one.1;
      incarnation = λ partition incarnation at. let one = at_incarnation partition incarnation at in one.2 ∙ placed.incarnation partition one.0 one.1;
    },
    λ tells. placed.theirs (told tells),
  )

  module _ (flows : Flows) (digest : ℕ) (old new : List Step) (is : AreOpened flows count digest (λ file. content_of file old) opened) (has : HasOpened count digest is.logs (synced_to count old) new ready.logs.items) where
    are_opened : AreOpenedLogs count digest is.logs new ready.logs.items (parts_in opened.states.items)
    are_opened = record { many = are.logs ∙ can.lives; opened = has.opened_all; goes = state_goes flows count digest (λ file. content_of file old) opened is }

    -- a run whose entries the files kept made it
    made_by : (run : List Commit) → AreKept flows count digest (λ file. content_of file old) run → MadeBy flows count (begun_of opened ready) run
    made_by run kept = record {
      below = kept.below;
      made = run_made flows count digest (λ file. content_of file old) opened is run kept;
      numbered = logs_numbered count digest (λ file. content_of file old) run kept.below kept.kept;
      past = λ partition past at.
          let one = at_past partition past at in
          let low = slice_get_within opened.lives.items partition one.0 one.1 in
          one.2 ∙ past_is flows count digest (λ file. content_of file old) opened is run kept partition one.0 (let many = can.lives in omega (arith, low, many)) one.1;
      incarnation = λ partition incarnation at.
          let one = at_incarnation partition incarnation at in
          let low = slice_get_within opened.lives.items partition one.0 one.1 in
          one.2 ∙ next_is flows count digest (λ file. content_of file old) opened is run kept partition one.0 (let many = can.lives in omega (arith, low, many)) one.1;
    }

    begins_by : (rules : Rules) → BeginsBy flows count digest (λ file. content_of file old) (begun_of opened ready) rules → Begins (origin_of count digest new (begun_of opened ready)) rules digest
    begins_by rules by =
        let plain : Rules = record rules { flows = flows; count = count; begin = parts_in opened.states.items } in
        let same : rules ≡ plain = λ i. record { flows = by.flows_are i; count = by.count_is i; recovered = rules.recovered; begin = by.states i; incarnations = rules.incarnations; since = rules.since; most = rules.most; requests = rules.requests; serves = rules.serves } in
        let made = made_by rules.recovered by.kept in
        subst (λ (r : Rules). Begins (origin_of count digest new (begun_of opened ready)) r digest) (sym same)
        (begins_there plain digest is.logs new ready.logs.items are_opened made.below (same_entries flows count digest (λ file. content_of file old) opened is rules.recovered by.kept) made.made (let kept = by.kept in kept.given))

    pub all_opened : AllOpened flows count digest (λ file. content_of file old) new (begun_of opened ready)
    all_opened = record {
      rests = has_begun count digest is.logs new ready.logs.items (parts_in opened.states.items) are_opened;
      begins = begins_by;
      made = made_by;
    }

-- ---- meanwhile

-- while logs are looked for
pub only_synced : (flows : Flows) (count digest : ℕ) (old new : List Step) → AllInside old → AreSyncs count old new → OpensOnly flows count digest old new
only_synced flows count digest old new inside syncs run kept = syncs_open flows count digest run old new inside syncs

-- and while they are made
pub opens_only : (flows : Flows) (count digest : ℕ) (old new : List Step) (opened : Opened) → AllInside old → (is : AreOpened flows count digest (λ file. content_of file old) opened)
    → Always (KeepsAll count digest is.logs (synced_to count old)) (synced_to count old) new → OpensOnly flows count digest old new
opens_only flows count digest old new opened inside is path run kept =
    together (syncs_open flows count digest run old (synced_to count old) inside (count, omega arith, inl refl)) (weaker moment path)
  where
    moment : (steps : List Step) → KeepsAll count digest is.logs (synced_to count old) steps → IsOpening flows count digest run old steps
    moment steps here = record {
      silent = here.silent ∙ synced_silent count count old;
      images = λ image are. inr (record {
        below = kept.below;
        kept = λ partition below.
            here.keeps partition below (image (first_log partition)) (image (second_log partition)) (are.each (first_log partition)) (are.each (second_log partition))
            ∙ ap (λ (l : List Entry). Some l) (sym (same_entries flows count digest (λ file. content_of file old) opened is run kept partition below));
        states = kept.states;
        made = kept.made;
        given = kept.given;
      });
      others = λ file none. here.others file none ∙ synced_others count old file inside none;
    }

-- ---- incarnations that are used up

pub is_used_up : (flows : Flows) (count digest : ℕ) (files : ℕ → List ℕ) (opened : Opened) (place : ℕ) (d : Life) → AreOpened flows count digest files opened → length opened.lives.items ≡ count → IsFirstSpent opened.lives.items (Some place)
    → IsSpent flows count digest files place (get_or opened.lives.items place d).incarnation
is_used_up flows count digest files opened place d is many spent =
    let one = element opened.lives.items place spent.0 in
    let low = spent.0 in
    let number : (get_or opened.lives.items place d).incarnation ≡ next_incarnation (is.logs place) = ap (λ (l : Life). l.incarnation) (get_or_from_slice_get opened.lives.items place one.0 d one.1) ∙ (is.lives place one.0 one.1).incarnation in
    record {
      logs = is.logs;
      kept = is.kept;
      none_left = is.none_left;
      below = omega (arith, low, many);
      lower = λ other under.
          let other_one = element opened.lives.items other (omega (arith, under, low)) in
          subst (λ (n : ℕ). n < 2 ^ 62) (is.lives other other_one.0 other_one.1).incarnation (spent.1 other other_one.0 under other_one.1);
      number_is = number;
      old = subst (λ (l : Life). 2 ^ 62 ≤ l.incarnation) (sym (get_or_from_slice_get opened.lives.items place one.0 d one.1)) (spent.2 one.0 one.1);
    }

-- ---- what happened where nothing is opened

pub refused_synced : (count : ℕ) (old new : List Step) (error : RecoverError) → AreSyncs count old new → OnlySynced count old new (Refused error)
refused_synced count old new (Damaged file offset) syncs = syncs
refused_synced count old new (OtherShape found asked) syncs = syncs
refused_synced count old new (OtherFlows found given) syncs = syncs
refused_synced count old new (Illegal partition position) syncs = syncs
refused_synced count old new (Unclosed partition position src seq) syncs = syncs
refused_synced count old new SiteFault syncs = tt
refused_synced count old new Memory syncs = tt

pub outside_synced : (count : ℕ) (old new : List Step) (error : RecoverError) → IsOutside error → OnlySynced count old new (Refused error)
outside_synced count old new (Damaged file offset) outside = absurd outside
outside_synced count old new (OtherShape found asked) outside = absurd outside
outside_synced count old new (OtherFlows found given) outside = absurd outside
outside_synced count old new (Illegal partition position) outside = absurd outside
outside_synced count old new (Unclosed partition position src seq) outside = absurd outside
outside_synced count old new SiteFault outside = tt
outside_synced count old new Memory outside = tt
