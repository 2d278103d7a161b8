-- What serving clients comes to, as a run has it.
use Rattle.std.proofs.Common.{◌≡◌, ◌≢◌, ◌⊎◌, ◌<◌, ◌∙◌, inl, inr, ℕ, List, [], Option, Some, None, refl, sym, subst}
use Rattle.std.specs.List.{All}
use Rattle.std.specs.Prelude.{IfSome}
use Rattle.client_port.specs.Ports.{Queue}
use Rattle.cluster_run.specs.Asked.{Asks, Job}
use Rattle.cluster_run.specs.Causes.{WentBy}
use Rattle.cluster_run.proofs.Done.{served_so}
use Rattle.cluster_run.specs.Comes.{LeavesLogs, NotOpened, WasServed}
use Rattle.command_words.specs.declared.words.RunOptions.{RunOptions}
use Rattle.engine_rounds.specs.Heard.{Heard}
use Rattle.engine_rounds.specs.Served.{IsServed, refusal_in}
use Rattle.engine_rounds.specs.declared.serving.Came.{Came}
use Rattle.engine_rounds.specs.declared.serving.Came.TheVariants as cames
use Rattle.flow_syntax.specs.Syntax.{Flows}
use Rattle.hub_store.specs.Trail.{Settled}
use Rattle.log_files.specs.Fronts.{AreSyncs}
use Rattle.open_logs.specs.Moments.{OpensOnly}
use Rattle.open_logs.specs.Spent.{AreRefused, OnlySynced, WhyUnopened}
use Rattle.open_logs.specs.declared.error.OpenError.{OpenError}
use Rattle.rest_laws.specs.Requests.{IsRequest}
use Rattle.run_causes.specs.declared.cause.Cause.{Cause}
use Rattle.site_model.specs.History.{Step, content_of}

-- input files ask for one job
pub same_job : (partitions nodes : ℕ) (files : ℕ → List ℕ) (a b : Job) → Asks partitions nodes files a → Asks partitions nodes files b → a ≡ b
same_job partitions nodes files a b one two =
    let flows : a.flows ≡ b.flows = cc (one.flows_in_file, two.flows_in_file) in
    let requests : a.requests ≡ b.requests = cc (one.requests_in_file, two.requests_in_file) in
    let digest : a.digest ≡ b.digest = one.digest_of_file ∙ sym two.digest_of_file in
    λ i. record { flows = flows i; digest = digest i; requests = requests i }

some_refusal : (error : OpenError) → Some error ≢ None
some_refusal error is = cc is

moved : (P : Flows → ℕ → ℕ → Type 0) (a b : Flows) (m n d e : ℕ) → a ≡ b → m ≡ n → d ≡ e → P a m d → P b n e
moved P a b m n d e is so too p = subst (λ (x : Flows). P x n e) is (subst (λ (x : ℕ). P a x e) so (subst (λ (x : ℕ). P a m x) too p))

-- a call by these flows, partitions and digest is one for the job
module _ (options : RunOptions) (job : Job) (flows : Flows) (count digest : ℕ) (flows_are : flows ≡ job.flows) (count_is : count ≡ options.partitions) (digest_is : digest ≡ job.digest) (old new : List Step) (trail : List Settled) where
  its : (P : Flows → ℕ → ℕ → Type 0) → P flows count digest → P job.flows options.partitions job.digest
  its P p = moved P flows job.flows count options.partitions digest job.digest flows_are count_is digest_is p

  back : (P : Flows → ℕ → ℕ → Type 0) → P job.flows options.partitions job.digest → P flows count digest
  back P p = moved P job.flows flows options.partitions count job.digest digest (sym flows_are) (sym count_is) (sym digest_is) p

  pub came_to : (segment batch steps : ℕ) (heard : Heard) (tells : Type 0) (came : Came) (port : Option (List Queue)) (cause : Cause) → 0 < options.partitions → All IsRequest job.requests → segment ≡ options.segment → batch ≡ options.batch → steps ≡ options.steps → WentBy came port cause → Asks options.partitions options.nodes (λ file. content_of file old) job
      → (refusal_in came ≢ None → trail ≡ []) → (refusal_in came ≢ None → OpensOnly flows count digest old new) → IfSome (refusal_in came) (WhyUnopened flows count digest (λ file. content_of file old) job.requests) → IfSome (refusal_in came) (OnlySynced count old new)
      → (refusal_in came ≡ None → IsServed flows count digest segment batch steps job.requests heard tells old new trail came port)
      → NotOpened options (λ file. content_of file old) old new trail cause ⊎ WasServed options (λ file. content_of file old) heard tells old new trail cause
  came_to segment batch steps heard tells (cames.Refused error) port cause some asked segment_is batch_is steps_are by asks nothing opening why synced served =
      inl (record {
        job = job;
        asks = asks;
        error = error;
        cause_is = by;
        why = its (λ f n d. WhyUnopened f n d (λ file. content_of file old) job.requests error) why;
        synced = its (λ f n d. OnlySynced n old new error) synced;
        opening = its (λ f n d. OpensOnly f n d old new) (opening (some_refusal error));
        nothing = nothing (some_refusal error);
      })
  came_to segment batch steps heard tells (cames.Halted halt) port cause some asked segment_is batch_is steps_are by asks nothing opening why synced served =
      let now : IsServed job.flows options.partitions job.digest options.segment options.batch options.steps job.requests heard tells old new trail (cames.Halted halt) port =
      subst (λ (s : ℕ). IsServed job.flows options.partitions job.digest s options.batch options.steps job.requests heard tells old new trail (cames.Halted halt) port) segment_is
      (subst (λ (s : ℕ). IsServed job.flows options.partitions job.digest segment s options.steps job.requests heard tells old new trail (cames.Halted halt) port) batch_is
      (subst (λ (s : ℕ). IsServed job.flows options.partitions job.digest segment batch s job.requests heard tells old new trail (cames.Halted halt) port) steps_are
      (its (λ f n d. IsServed f n d segment batch steps job.requests heard tells old new trail (cames.Halted halt) port) (served refl)))) in
      inr (record {
        job = job;
        asks = asks;
        came = cames.Halted halt;
        port = port;
        went = refl;
        served = now;
        cause_by = by;
        serves = λ told kept keeps. served_so job.flows options.partitions job.digest options.segment options.batch options.steps job.requests heard tells old new trail some asked told kept keeps (cames.Halted halt) port cause now refl by;
      })
  came_to segment batch steps heard tells (cames.Ended end) port cause some asked segment_is batch_is steps_are by asks nothing opening why synced served =
      let now : IsServed job.flows options.partitions job.digest options.segment options.batch options.steps job.requests heard tells old new trail (cames.Ended end) port =
      subst (λ (s : ℕ). IsServed job.flows options.partitions job.digest s options.batch options.steps job.requests heard tells old new trail (cames.Ended end) port) segment_is
      (subst (λ (s : ℕ). IsServed job.flows options.partitions job.digest segment s options.steps job.requests heard tells old new trail (cames.Ended end) port) batch_is
      (subst (λ (s : ℕ). IsServed job.flows options.partitions job.digest segment batch s job.requests heard tells old new trail (cames.Ended end) port) steps_are
      (its (λ f n d. IsServed f n d segment batch steps job.requests heard tells old new trail (cames.Ended end) port) (served refl)))) in
      inr (record {
        job = job;
        asks = asks;
        came = cames.Ended end;
        port = port;
        went = refl;
        served = now;
        cause_by = by;
        serves = λ told kept keeps. served_so job.flows options.partitions job.digest options.segment options.batch options.steps job.requests heard tells old new trail some asked told kept keeps (cames.Ended end) port cause now refl by;
      })

  -- files that are to be refused are left
  pub leaves : AreRefused job.flows options.partitions job.digest (λ file. content_of file old) job.requests → (AreRefused flows count digest (λ file. content_of file old) job.requests → AreSyncs count old new × (trail ≡ [])) → LeavesLogs options.partitions old new trail
  leaves refused clean =
      let both = clean (back (λ f n d. AreRefused f n d (λ file. content_of file old) job.requests) refused) in
      record { syncs = its (λ f n d. AreSyncs n old new) both.0; nothing = both.1 }
