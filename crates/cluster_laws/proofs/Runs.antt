-- A run over partitions is a life.
use Rattle.std.proofs.Common.{◌≡◌, ◌≤◌, ◌⊎◌, inl, inr, ℕ, true, List, [], length, refl, sym, subst}
use Rattle.call_begins.specs.Begins.{call_rules}
use Rattle.cluster_laws.specs.Runs.{AsksUnder}
use Rattle.cluster_run.specs.Comes.{ComesTo, WasServed}
use Rattle.command_words.specs.declared.words.RunOptions.{RunOptions}
use Rattle.engine_rounds.specs.Heard.{Heard}
use Rattle.flow_syntax.specs.Syntax.{Flows}
use Rattle.hub_store.specs.Trail.{Settled}
use Rattle.join_laws.specs.Joined.{IsOneLife, WentOn, life_at}
use Rattle.open_logs.specs.Moments.{OpensOnly}
use Rattle.open_logs.specs.Picks.{origin_of}
use Rattle.run_causes.specs.declared.cause.Cause.{Cause}
use Rattle.site_model.specs.History.{Step, content_of}
use Rattle.site_model.specs.Moments.Always.{begins}

-- where nothing happens nothing is opened
opens_none : (flows : Flows) (count digest : ℕ) (old : List Step) → OpensOnly flows count digest old old
opens_none flows count digest old run kept = begins (record { silent = refl; images = λ image is. inl is; others = λ file is. refl })

module _ (options : RunOptions) (flows : Flows) (digest : ℕ) (heard : Heard) (tells : Type 0) (it : tells) (old new : List Step) (trail : List Settled) (cause : Cause) where
  abbrev files : ℕ → List ℕ
  files = λ file. content_of file old

  -- a call that served clients went on
  served_on : (served : WasServed options files heard tells old new trail cause) → WentOn served.job.flows options.partitions served.job.digest old new trail
  served_on served =
      let was = served.served in
      let rules = call_rules served.job.flows options.partitions was.begun was.run was.since options.batch served.job.requests true in record {
        origin = origin_of options.partitions served.job.digest was.steps was.begun;
        begin = rules.begin;
        incarnations = rules.incarnations;
        since = rules.since;
        most = rules.most;
        requests = rules.requests;
        serves = rules.serves;
        opening = was.opening it;
        further = was.further it;
        nothing = was.nothing it;
        crash = λ kept is moment high within image left. let leaves = was.crash it kept is moment high within image left in (leaves.0, leaves.3.on);
      }

  lived : ComesTo options files heard tells old new trail cause → AsksUnder options files flows digest
      → WentOn flows options.partitions digest old new trail ⊎ (OpensOnly flows options.partitions digest old new × (trail ≡ []))
  lived (inl read) asks = inr (subst (OpensOnly flows options.partitions digest old) (sym read.same) (opens_none flows options.partitions digest old), read.nothing)
  lived (inr (inl opened)) asks =
      let same = asks opened.job opened.asks in
      inr (
        subst (λ (n : ℕ). OpensOnly flows options.partitions n old new) same.1 (subst (λ (f : Flows). OpensOnly f options.partitions opened.job.digest old new) same.0 opened.opening),
        opened.nothing,
      )
  lived (inr (inr served)) asks =
      let same = asks served.job served.asks in
      inl (subst (λ (n : ℕ). WentOn flows options.partitions n old new trail) same.1 (subst (λ (f : Flows). WentOn f options.partitions served.job.digest old new trail) same.0 (served_on served)))

  pub run_is_life : (moment : ℕ) → ComesTo options files heard tells old new trail cause → AsksUnder options files flows digest → length old ≤ moment → moment ≤ length new → IsOneLife flows options.partitions digest (life_at old new trail moment)
  run_is_life moment comes asks begun within = record { lived = lived comes asks; begun = begun; within = within }
