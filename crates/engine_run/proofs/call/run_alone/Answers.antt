use Rattle.std.proofs.Common.{◌≡◌, ◌≤◌, ◌∙◌, inl, inr, ℕ, List, Some, refl, sym, ap, subst, arith}
use Rattle.std.proofs.Math.Nat.{le_of_eq}
use Rattle.cluster_run.specs.Comes.{AreUnfit, ComesTo, KeepsFiles, LeavesLogs}
use Rattle.cluster_run.specs.Complete.{AreFit, IsSound}
use Rattle.command_words.specs.Command.{call_in}
use Rattle.command_words.specs.declared.words.Call.TheVariants.{Run, Show}
use Rattle.command_words.specs.declared.words.RunOptions.{RunOptions}
use Rattle.engine_rounds.specs.Heard.{heard_of}
use Rattle.engine_run.specs.Promises.{SettlesNothing}
use Rattle.engine_run.specs.Showing.{ShowsAs, WritesNothing}
use Rattle.engine_run.proofs.Causes.{differ, memory_no_site, memory_no_say, memory_no_clock}
use Rattle.engine_run.proofs.Words.{run_is_within, show_is_within, run_same, run_no_show, show_same, none_no_call}
use Rattle.engine_run.proofs.call.run_alone.Goals as goal
use Rattle.run_causes.specs.Causes.{status_of}
use Rattle.run_inputs.specs.Input.{RefusesInput}
use Rattle.run_inputs.specs.Refusal.{refusal_of}
use Rattle.run_causes.specs.declared.cause.Cause.{Cause}
use Rattle.run_causes.specs.declared.cause.Cause.TheVariants.{Usage, SiteFault, SayFault, ClockFault, Memory}
use Rattle.site_model.specs.Calls.{HasRisen}
use Rattle.site_model.specs.History.{changes_of, content_of, tape}

pub run_cluster-requires-clause-some : goal.run_cluster-requires-clause-some
run_cluster-requires-clause-some g c = let is = rw c.in-Ok-Run.field-0-is at c.in-Ok-Run.ensures in let w = run_is_within c.args.words.now c.in-Ok-Run.options is in w.there

pub run_cluster-requires-clause-few : goal.run_cluster-requires-clause-few
run_cluster-requires-clause-few g c = let is = rw c.in-Ok-Run.field-0-is at c.in-Ok-Run.ensures in let w = run_is_within c.args.words.now c.in-Ok-Run.options is in w.most

pub run_cluster-requires-clause-batch : goal.run_cluster-requires-clause-batch
run_cluster-requires-clause-batch g c = let is = rw c.in-Ok-Run.field-0-is at c.in-Ok-Run.ensures in let w = run_is_within c.args.words.now c.in-Ok-Run.options is in w.some

pub run_cluster-requires-clause-most : goal.run_cluster-requires-clause-most
run_cluster-requires-clause-most g c = let is = rw c.in-Ok-Run.field-0-is at c.in-Ok-Run.ensures in let w = run_is_within c.args.words.now c.in-Ok-Run.options is in w.few

pub run_cluster-requires-clause-short : goal.run_cluster-requires-clause-short
run_cluster-requires-clause-short g c = let is = rw c.in-Ok-Run.field-0-is at c.in-Ok-Run.ensures in let w = run_is_within c.args.words.now c.in-Ok-Run.options is in w.short

pub returns-in-Ok-Run : goal.returns-in-Ok-Run
returns-in-Ok-Run g c =
    let is = rw c.in-Ok-Run.field-0-is at c.in-Ok-Run.ensures in
    let ran = c.run_cluster.ensures in
    let end = c.run_cluster.result in
    let own = c.in-Ok-Run.options in
    let is_run : call_in c.args.words.now ≡ Some (Run own) = is in
    let old = g.V.Site.history c.args.site in
    let now = g.V.Site.history end.site in
    let files : ℕ → List ℕ = λ file. content_of file old in
    let same : (options : RunOptions) → call_in c.args.words.now ≡ Some (Run options) → own ≡ options = λ options asked. run_same (call_in c.args.words.now) own options is_run asked in record {
      tells = ran.tells;
      status = ran.status;
      usage = λ none. absurd (none_no_call (call_in c.args.words.now) (Run own) none is);
      only_usage = λ usage. absurd (ran.no_usage usage);
      promises = record {
        idle = λ none. absurd (none_no_call (call_in c.args.words.now) (Run own) none is);
        settles_nothing = λ is. ran.nothing (subst (λ call. SettlesNothing call end.cause) is_run is);
        comes = λ tells options asked. subst (λ (o : RunOptions). ComesTo o files (heard_of (g.C.Clock.given c.args.clock) (g.C.Clock.given end.clock) (g.C.Clock.latest end.clock)) (g.V.Site.tells end.site) old now end.trail end.cause) (same options asked) (ran.comes tells);
        keeps = λ options asked. subst (λ (o : RunOptions). KeepsFiles o.partitions old now end.cause) (same options asked) ran.untouched;
        unfit = λ tells options asked unfit. subst (λ (o : RunOptions). AreUnfit o files → LeavesLogs o.partitions old now end.trail) (same options asked) (ran.unfit tells) unfit;
        shows = λ tells partitions asked. absurd (run_no_show (call_in c.args.words.now) own partitions is asked);
        writes_nothing = λ partitions asked. absurd (run_no_show (call_in c.args.words.now) own partitions is asked);
      };
      faults = ran.faults;
      complete = λ tells options asked fit none. ran.complete tells (subst (λ (o : RunOptions). AreFit o files) (sym (same options asked)) fit) none;
    }

pub show-cause-requires-clause-some : goal.show-cause-requires-clause-some
show-cause-requires-clause-some g c = let is = rw c.in-Ok-Show.field-0-is at c.in-Ok-Show.ensures in let w = show_is_within c.args.words.now c.in-Ok-Show.partitions is in w.some

pub show-cause-requires-clause-few : goal.show-cause-requires-clause-few
show-cause-requires-clause-few g c = let is = rw c.in-Ok-Show.field-0-is at c.in-Ok-Show.ensures in let w = show_is_within c.args.words.now c.in-Ok-Show.partitions is in w.few

pub returns-in-Ok-Show : goal.returns-in-Ok-Show
returns-in-Ok-Show g c =
    let is = rw c.in-Ok-Show.field-0-is at c.in-Ok-Show.ensures in
    let shown = c.show-cause.ensures in
    let end = c.end_with.ensures in
    let old = g.V.Site.history c.args.site in
    let now = c.show-cause.new.site in record {
      tells = λ tells. shown.tells (subst g.V.Site.tells end.site tells);
      status = end.status ∙ ap status_of (sym end.cause);
      usage = λ none. absurd (none_no_call (call_in c.args.words.now) (Show c.in-Ok-Show.partitions) none is);
      only_usage = λ usage. absurd (shown.no_usage (sym end.cause ∙ usage));
      promises = record {
        idle = λ none. absurd (none_no_call (call_in c.args.words.now) (Show c.in-Ok-Show.partitions) none is);
        settles_nothing = λ settles. end.trail ∙ c.none.ensures;
        comes = λ tells options asked. absurd (run_no_show (call_in c.args.words.now) options c.in-Ok-Show.partitions asked is);
        keeps = λ options asked. absurd (run_no_show (call_in c.args.words.now) options c.in-Ok-Show.partitions asked is);
        unfit = λ tells options asked. absurd (run_no_show (call_in c.args.words.now) options c.in-Ok-Show.partitions asked is);
        shows = λ tells partitions asked.
            let same : c.in-Ok-Show.partitions ≡ partitions = show_same (call_in c.args.words.now) c.in-Ok-Show.partitions partitions is asked in
            subst (λ (n : ℕ). ShowsAs (λ file. content_of file old) n (tape old) (tape (g.V.Site.history c.end_with.result.site)) c.end_with.result.cause) same
            (subst (λ (cause : Cause). ShowsAs (λ file. content_of file old) c.in-Ok-Show.partitions (tape old) (tape (g.V.Site.history c.end_with.result.site)) cause) (sym end.cause)
            (subst (λ site. ShowsAs (λ file. content_of file old) c.in-Ok-Show.partitions (tape old) (tape (g.V.Site.history site)) c.show-cause.result) (sym end.site) (shown.shows (subst g.V.Site.tells end.site tells))));
        writes_nothing = λ partitions asked.
            let same : c.in-Ok-Show.partitions ≡ partitions = show_same (call_in c.args.words.now) c.in-Ok-Show.partitions partitions is asked in
            subst (λ (n : ℕ). WritesNothing n old (g.V.Site.history c.end_with.result.site)) same (subst (λ site. WritesNothing c.in-Ok-Show.partitions old (g.V.Site.history site)) (sym end.site) shown.nothing);
      };
      faults = record {
        of_disk = λ is. subst (λ site. HasRisen (g.V.Site.disk_faults c.args.site) (g.V.Site.disk_faults site)) (sym end.site) (shown.fault (sym end.cause ∙ is));
        of_tape = λ is. subst (λ site. HasRisen (g.V.Site.say_faults c.args.site) (g.V.Site.say_faults site)) (sym end.site) (shown.say_fault (sym end.cause ∙ is));
        of_clock = λ is. absurd (shown.no_clock (sym end.cause ∙ is));
        disk = subst (λ site. g.V.Site.disk_faults c.args.site ≤ g.V.Site.disk_faults site) (sym end.site) shown.later;
        tape = subst (λ site. g.V.Site.say_faults c.args.site ≤ g.V.Site.say_faults site) (sym end.site) shown.say_later;
        clock = le_of_eq (ap g.C.Clock.clock_faults (sym end.clock));
      };
      complete = λ tells options asked. absurd (run_no_show (call_in c.args.words.now) options c.in-Ok-Show.partitions asked is);
    }

pub returns-in-Err-Usage : goal.returns-in-Err-Usage
returns-in-Err-Usage g c =
    let end = c.end_with-in-Err-Usage.ensures in
    let old = g.V.Site.history c.args.site in
    let now = g.V.Site.history c.end_with-in-Err-Usage.result.site in
    let is = rw c.in-Err-Usage.field-0-is at c.in-Err-Usage.ensures in record {
      tells = λ tells. subst g.V.Site.tells end.site tells;
      status = end.status ∙ ap status_of (sym end.cause);
      usage = λ none. inl end.cause;
      only_usage = λ usage. is;
      promises = record {
        idle = λ none. ap g.V.Site.history end.site;
        settles_nothing = λ settles. end.trail ∙ c.none-in-Err-Usage.ensures;
        comes = λ tells options asked. absurd (none_no_call (call_in c.args.words.now) (Run options) is asked);
        keeps = λ options asked. absurd (none_no_call (call_in c.args.words.now) (Run options) is asked);
        unfit = λ tells options asked. absurd (none_no_call (call_in c.args.words.now) (Run options) is asked);
        shows = λ tells partitions asked. absurd (none_no_call (call_in c.args.words.now) (Show partitions) is asked);
        writes_nothing = λ partitions asked. absurd (none_no_call (call_in c.args.words.now) (Show partitions) is asked);
      };
      faults = record {
        of_disk = λ is. absurd (differ Usage SiteFault refl (sym end.cause ∙ is));
        of_tape = λ is. absurd (differ Usage SayFault refl (sym end.cause ∙ is));
        of_clock = λ is. absurd (differ Usage ClockFault refl (sym end.cause ∙ is));
        disk = le_of_eq (ap g.V.Site.disk_faults (sym end.site));
        tape = le_of_eq (ap g.V.Site.say_faults (sym end.site));
        clock = le_of_eq (ap g.C.Clock.clock_faults (sym end.clock));
      };
      complete = λ tells options asked. absurd (none_no_call (call_in c.args.words.now) (Run options) is asked);
    }

pub returns-in-Err-Memory : goal.returns-in-Err-Memory
returns-in-Err-Memory g c =
    let end = c.end_with-in-Err-Memory.ensures in
    let old = g.V.Site.history c.args.site in
    let now = g.V.Site.history c.end_with-in-Err-Memory.result.site in record {
      tells = λ tells. subst g.V.Site.tells end.site tells;
      status = end.status ∙ ap status_of (sym end.cause);
      usage = λ none. inr end.cause;
      only_usage = λ usage. absurd (differ Memory Usage refl (sym end.cause ∙ usage));
      promises = record {
        idle = λ none. ap g.V.Site.history end.site;
        settles_nothing = λ settles. end.trail ∙ c.none-in-Err-Memory.ensures;
        comes = λ tells options asked. inl (record { why = subst (RefusesInput (refusal_of options.partitions options.nodes (λ file. content_of file old))) (sym end.cause) tt; same = ap g.V.Site.history end.site; nothing = end.trail ∙ c.none-in-Err-Memory.ensures });
        keeps = λ options asked. subst (KeepsFiles options.partitions old now) (sym end.cause) tt;
        unfit = λ tells options asked unfit. record { syncs = (0, omega arith, inl (ap g.V.Site.history end.site)); nothing = end.trail ∙ c.none-in-Err-Memory.ensures };
        shows = λ tells partitions asked. subst (ShowsAs (λ file. content_of file old) partitions (tape old) (tape now)) (sym end.cause) (inl (ap (λ site. tape (g.V.Site.history site)) end.site));
        writes_nothing = λ partitions asked. record { mid = g.V.Site.history c.args.site; syncs = (0, omega arith, inl refl); files = λ file. ap (λ site. changes_of file (g.V.Site.history site)) c.end_with-in-Err-Memory.ensures.site };
      };
      faults = record {
        of_disk = λ is. absurd (memory_no_site c.end_with-in-Err-Memory.result.cause end.cause is);
        of_tape = λ is. absurd (memory_no_say c.end_with-in-Err-Memory.result.cause end.cause is);
        of_clock = λ is. absurd (memory_no_clock c.end_with-in-Err-Memory.result.cause end.cause is);
        disk = le_of_eq (ap g.V.Site.disk_faults (sym end.site));
        tape = le_of_eq (ap g.V.Site.say_faults (sym end.site));
        clock = le_of_eq (ap g.C.Clock.clock_faults (sym end.clock));
      };
      complete = λ tells options asked fit none. subst IsSound (sym end.cause) tt;
    }
