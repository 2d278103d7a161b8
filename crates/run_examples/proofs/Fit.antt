-- Which files are fit for a run.
use Rattle.std.proofs.Common.{◌≡◌, ◌∙◌, ℕ, List, [], ◌∷◌, false, codes, None, Some, refl, sym, ap, subst, arith}
use Rattle.std.proofs.lemmas.List.Elements.{All-from_recursion}
use Rattle.client_order.specs.Clashes.{clashes, taken_in}
use Rattle.cluster_run.proofs.Serves.{same_job}
use Rattle.cluster_run.proofs.Sound.{run_sound}
use Rattle.cluster_run.specs.Asked.{Job}
use Rattle.cluster_run.specs.Causes.{IsRefusal}
use Rattle.cluster_run.specs.Comes.{AreUnfit, ComesTo}
use Rattle.cluster_run.specs.Comes.AreUnfit.{for_input, for_logs}
use Rattle.cluster_run.specs.Complete.{AreFit, IsSound}
use Rattle.cluster_run.specs.Faults.{faults_of}
use Rattle.dura_model.specs.Entries.{next_incarnation}
use Rattle.dura_model.specs.Partition.{fresh, with_part}
use Rattle.hub_store.specs.Trail.{Settled}
use Rattle.many_logs.specs.Placing.{of_partition}
use Rattle.many_logs.specs.Stands.{asked_at, AreKept}
use Rattle.open_laws.proofs.Opens.{kept_stand, may_meet}
use Rattle.open_laws.specs.Standing.{MayMeet, StandFor}
use Rattle.open_logs.specs.Spent.{IsOwn, IsSpent, WhyUnopened}
use Rattle.open_logs.specs.declared.error.OpenError.{OpenError}
use Rattle.open_logs.specs.declared.error.OpenError.TheVariants as refusals
use Rattle.part_items.specs.Examples.{digest, empty_log, taking}
use Rattle.part_items.specs.Logs.{logs_in, entries_in}
use Rattle.recover_core.specs.declared.error.RecoverError.TheVariants as errors
use Rattle.request_reader.specs.Line.{Request}
use Rattle.run_causes.specs.declared.cause.Cause.{Cause}
use Rattle.run_causes.specs.declared.cause.Cause.TheVariants as causes
use Rattle.run_causes.specs.declared.cause.Cause.TheVariants.{Done, Usage, BadFlows, BadRequests, Clash, BadPlan, TooLong, Waiting, Long, SiteFault, SayFault, ClockFault, Damaged, Illegal, Unclosed, OtherShape, OtherFlows, Memory, Full, Spent}
use Rattle.run_causes.specs.declared.cause.PlanPlace.TheVariants as places
use Rattle.run_examples.proofs.LogsKept.{fresh_kept, torn_kept, earlier_kept}
use Rattle.run_examples.proofs.Ready.{asks_here, other_first, clashes_here}
use Rattle.run_examples.specs.Calls.{by_steps, one_asked, unheard}
use Rattle.run_examples.specs.Directories.{directory, earlier_log, torn_log}
use Rattle.run_inputs.proofs.Computed.{flows_of_one, requests_of_one, refusal_good, refusal_plan}
use Rattle.run_inputs.specs.Examples.{three_files, good_files, one_request, requests_bytes}
use Rattle.run_rules.specs.Examples.{request_taken}
use Rattle.site_model.specs.History.{Step}

-- ---- what is kept

-- there is no log
pub none_kept : AreKept one_asked.flows 1 one_asked.digest good_files []
none_kept = record {
  below = tt;
  kept = λ partition below. let is : 0 ≡ partition = omega (arith, below) in subst (λ (p : ℕ). entries_in (logs_in (asked_at 1 one_asked.digest p) good_files) ≡ Some []) is fresh_kept;
  states = fresh;
  made = refl;
  given = tt;
}

-- a log whose one frame a crash left half there
pub none_whole : AreKept one_asked.flows 1 one_asked.digest (directory requests_bytes torn_log) []
none_whole = record {
  below = tt;
  kept = λ partition below. let is : 0 ≡ partition = omega (arith, below) in subst (λ (p : ℕ). entries_in (logs_in (asked_at 1 one_asked.digest p) (directory requests_bytes torn_log)) ≡ Some []) is torn_kept;
  states = fresh;
  made = refl;
  given = tt;
}

-- and one of an earlier run
pub one_kept : AreKept one_asked.flows 1 one_asked.digest (directory requests_bytes earlier_log) (record { partition = 0; entry = taking 0 } ∷ [])
one_kept = record {
  below = (omega arith, tt);
  kept = λ partition below. let is : 0 ≡ partition = omega (arith, below) in
      subst (λ (p : ℕ). entries_in (logs_in (asked_at 1 one_asked.digest p) (directory requests_bytes earlier_log)) ≡ Some (of_partition p (record { partition = 0; entry = taking 0 } ∷ []))) is earlier_kept;
  states = with_part fresh 0 request_taken;
  made = refl;
  given = ((tt, λ next is. tt), λ next is. tt);
}

-- ---- files that are fit

pub fit_here : AreFit (by_steps 1) good_files
unfolding none_kept
fit_here = record {
  job = one_asked;
  asks = record { flows_in_file = flows_of_one; digest_of_file = refl; requests_in_file = requests_of_one; accepted = refusal_good };
  stand = kept_stand one_asked.flows 1 one_asked.digest good_files one_asked.requests [] none_kept (All-from_recursion (λ (r : Request). clashes (taken_in 1 fresh) r ≡ false) (one_request ∷ []) (refl, tt));
}

-- no log has an entry, so that no incarnation is used up
never_spent : (partition number : ℕ) → IsSpent one_asked.flows 1 one_asked.digest good_files partition number → ⊥
never_spent partition number spent =
    let first : 0 ≡ partition = (let below = spent.below in omega (arith, below)) in
    let kept = spent.kept 0 (omega arith) in
    let none : [] ≡ spent.logs 0 = cc (fresh_kept, kept) in
    let next : number ≡ 0 = spent.number_is ∙ ap (λ (p : ℕ). next_incarnation (spent.logs p)) (sym first) ∙ ap next_incarnation (sym none) in
    let old = spent.old in omega (arith, next, old)

own_never : (error : OpenError) → IsOwn error → MayMeet error → WhyUnopened one_asked.flows 1 one_asked.digest good_files one_asked.requests error → ⊥
own_never (refusals.Refused errors.SiteFault) own may why = own
own_never (refusals.Refused errors.Memory) own may why = own
own_never (refusals.Refused (errors.Damaged file offset)) own may why = may
own_never (refusals.Refused (errors.OtherShape found asked)) own may why = may
own_never (refusals.Refused (errors.OtherFlows found given)) own may why = may
own_never (refusals.Refused (errors.Illegal partition position)) own may why = may
own_never (refusals.Refused (errors.Unclosed partition position src seq)) own may why = may
own_never (refusals.Spent partition number) own may why = never_spent partition number why
own_never (refusals.Clash name number) own may why = may

-- and aren't to be refused
pub not_refused : AreUnfit (by_steps 1) good_files → ⊥
unfolding fit_here
not_refused (for_input cause is) = let wrong : None ≡ Some cause = sym refusal_good ∙ is in cc wrong
not_refused (for_logs job asks (error, own, why)) =
    let same : job ≡ one_asked = same_job 1 1 good_files job one_asked asks fit_here.asks in
    let there = subst (λ (j : Job). WhyUnopened j.flows 1 j.digest good_files j.requests error) same why in
    own_never error own (may_meet one_asked.flows 1 one_asked.digest good_files one_asked.requests fit_here.stand error there) there

-- a refusal isn't sound
not_sound : (cause : Cause) → IsRefusal cause → IsSound cause → ⊥
not_sound Done refuses sound = refuses
not_sound Usage refuses sound = refuses
not_sound (BadFlows fault) refuses sound = sound
not_sound (BadRequests line) refuses sound = sound
not_sound (Clash client number) refuses sound = sound
not_sound (BadPlan place) refuses sound = sound
not_sound (TooLong file) refuses sound = sound
not_sound (Waiting client number) refuses sound = refuses
not_sound (Long labels) refuses sound = refuses
not_sound SiteFault refuses sound = refuses
not_sound SayFault refuses sound = refuses
not_sound ClockFault refuses sound = refuses
not_sound (Damaged file offset) refuses sound = sound
not_sound (Illegal partition position) refuses sound = sound
not_sound (Unclosed partition position src seq) refuses sound = sound
not_sound (OtherShape found asked) refuses sound = sound
not_sound (OtherFlows found given) refuses sound = sound
not_sound Memory refuses sound = refuses
not_sound (Full partition length) refuses sound = refuses
not_sound (Spent partition number) refuses sound = refuses

-- a run over them comes to none
pub never_refuses : (old new : List Step) (trail : List Settled) (cause : Cause) → IsRefusal cause → ComesTo (by_steps 1) good_files unheard (Unit {0}) old new trail cause → ⊥
never_refuses old new trail cause refuses comes =
    not_sound cause refuses (run_sound (by_steps 1) good_files unheard (Unit {0}) old new trail cause (faults_of 0 0 0) (faults_of 0 0 0) comes
    (record {
      of_disk = λ is. absurd (subst IsRefusal is refuses);
      of_tape = λ is. absurd (subst IsRefusal is refuses);
      of_clock = λ is. absurd (subst IsRefusal is refuses);
      disk = omega arith;
      tape = omega arith;
      clock = omega arith;
    })
    fit_here (record { same = refl; disk = omega arith; tape = omega arith; clock = omega arith }))

-- ---- files that aren't

pub asks_badly : AreFit (by_steps 1) (three_files (codes "{}") [] (codes "[]")) → ⊥
asks_badly fit = let wrong : None ≡ Some (causes.BadPlan places.Whole) = sym fit.asks.accepted ∙ refusal_plan in cc wrong

-- the log is of other flows
pub stands_badly : AreFit (by_steps 1) (directory requests_bytes empty_log) → ⊥
stands_badly fit =
    let files = directory requests_bytes empty_log in
    let same : fit.job ≡ one_asked = same_job 1 1 files fit.job one_asked fit.asks (asks_here empty_log) in
    may_meet one_asked.flows 1 one_asked.digest files one_asked.requests (subst (λ (j : Job). StandFor j.flows 1 j.digest files j.requests) same fit.stand)
    (refusals.Refused (errors.OtherFlows digest one_asked.digest)) other_first

-- another request was taken
pub clashes_badly : AreFit (by_steps 1) (directory requests_bytes earlier_log) → ⊥
clashes_badly fit =
    let files = directory requests_bytes earlier_log in
    let same : fit.job ≡ one_asked = same_job 1 1 files fit.job one_asked fit.asks (asks_here earlier_log) in
    may_meet one_asked.flows 1 one_asked.digest files one_asked.requests (subst (λ (j : Job). StandFor j.flows 1 j.digest files j.requests) same fit.stand)
    (refusals.Clash (codes "a") 1) clashes_here
