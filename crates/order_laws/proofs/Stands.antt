-- What files stand for does not hang on the order in which the recovered entries were accepted.
use Rattle.std.proofs.Common.{◌≡◌, inl, inr, ◌<◌, ℕ, List, ◌++◌, Some, sym, ap, subst, ◌∙◌, append_assoc}
use Rattle.dura_model.specs.Legal.{Legal}
use Rattle.dura_model.specs.Partition.{Partition, fresh, shown}
use Rattle.dura_model.specs.World.{World}
use Rattle.hub_store.specs.Origin.{Origin}
use Rattle.hub_store.specs.Trail.{Settled, of_part}
use Rattle.many_logs.proofs.Frames.{put_apart}
use Rattle.many_logs.proofs.Runs.{goes_on_alike}
use Rattle.many_logs.specs.Labels.{labels_of_commits}
use Rattle.many_logs.specs.Placing.{Commit, states_after, of_partition, AllBelow, frames_in_order}
use Rattle.many_logs.specs.Stands.{FilesStand, AreKept}
use Rattle.many_rules.specs.Leaves.{StandsOn}
use Rattle.many_rules.specs.Rules.{Rules, commits_of}
use Rattle.order_laws.proofs.Answered.{own_alike, ran_alike, all_alike, half_alike}
use Rattle.order_laws.proofs.Known.{founded_alike}
use Rattle.order_laws.proofs.Orders.{SameOwn, same_own, same_states, below_apart, legal_front, kept_alike}
use Rattle.site_model.specs.History.{Step}

-- an order that is accepted of the entries that were recovered makes the states with which the call begins
pub begins_alike : (rules : Rules) (kept : List Commit) (states : ℕ → Partition) → AllBelow rules.count rules.recovered → AllBelow rules.count kept → ((partition : ℕ) → partition < rules.count → of_partition partition kept ≡ of_partition partition rules.recovered)
    → states_after rules.flows rules.count fresh rules.recovered ≡ Some rules.begin → states_after rules.flows rules.count fresh kept ≡ Some states → states_after rules.flows rules.count fresh kept ≡ Some rules.begin
begins_alike rules kept states low also same made kept_made =
    kept_made ∙ ap (λ (f : ℕ → Partition). Some f) (same_states rules.flows rules.count rules.recovered kept rules.begin states low also (same_own rules.count rules.recovered kept low also same) made kept_made)

-- the recovered entries are accepted in another order too
module _ (rules : Rules) (run : List Commit) (states : ℕ → Partition) (latest digest : ℕ) (o : Origin) (steps : List Step) (trail : List Settled) (files : ℕ → List ℕ) (low : AllBelow rules.count run)
    (own : (partition : ℕ) → partition < rules.count → of_partition partition run ≡ of_partition partition rules.recovered) (made : states_after rules.flows rules.count fresh run ≡ Some states) (stands : StandsOn rules latest digest o steps trail files) where
  -- what was settled
  abbrev settled : List Commit
  settled = commits_of trail

  -- the frames of which the gates were being written
  abbrev frames : List Commit
  frames = frames_in_order rules.count stands.going

  -- what the states show that the other order makes
  abbrev world : World
  world = shown rules.flows rules.count states

  -- no partition has other entries in the one than in the other
  same : SameOwn rules.recovered run
  same = same_own rules.count rules.recovered run (below_apart rules.count rules.recovered (settled ++ frames) stands.kept.below).0 low own

  -- the files keep the other order too
  kept_too : AreKept rules.flows rules.count digest files (run ++ (settled ++ frames))
  kept_too = kept_alike rules.flows rules.count digest files rules.recovered run (settled ++ frames) states low same made stands.kept

  -- the order that was recovered comes to the world that these states show
  first : Legal rules.flows (labels_of_commits rules.recovered) world
  first =
      let both = put_apart rules.flows rules.count fresh stands.kept.states rules.recovered (settled ++ frames) stands.kept.made in
      let alike : states ≡ both.0 = same_states rules.flows rules.count rules.recovered run both.0 states (below_apart rules.count rules.recovered (settled ++ frames) stands.kept.below).0 low same both.1 made in
      legal_front rules.flows rules.count digest files rules.recovered (settled ++ frames) states stands.kept (both.1 ∙ ap (λ (f : ℕ → Partition). Some f) (sym alike))

  -- so does the other order
  second : Legal rules.flows (labels_of_commits run) world
  second = legal_front rules.flows rules.count digest files run (settled ++ frames) states kept_too made

  -- so the labels behind the one are stood for behind the other
  labels_stand : FilesStand rules.flows rules.count digest files (labels_of_commits run ++ labels_of_commits settled ++ labels_of_commits frames)
  labels_stand =
      let one = subst (FilesStand rules.flows rules.count digest files) (append_assoc (labels_of_commits rules.recovered) (labels_of_commits settled) (labels_of_commits frames)) stands.stands in
      let two = goes_on_alike rules.flows rules.count digest files (labels_of_commits rules.recovered) (labels_of_commits run) (labels_of_commits settled ++ labels_of_commits frames) world first second one in
      subst (FilesStand rules.flows rules.count digest files) (sym (append_assoc (labels_of_commits run) (labels_of_commits settled) (labels_of_commits frames))) two

  -- what stands for the run behind the one stands for it behind the other
  pub order_stands : StandsOn (record rules { recovered = run }) latest digest o steps trail files
  order_stands = record {
    going = stands.going;
    stands = labels_stand;
    writing = stands.writing;
    kept = kept_too;
    ran = ran_alike rules run stands.ran;
    founded = founded_alike rules.recovered run same stands.founded;
    told = stands.told;
    own = λ partition inside. own_alike rules run latest stands.told partition (of_part partition trail ++ stands.going partition) (stands.own partition inside);
    lines = stands.lines;
    part = stands.part;
    answered = all_alike rules run world first second settled stands.answered;
    spoken = stands.spoken;
    saying = elim stands.saying [
      | inl whole ↦ inl whole
      | inr half ↦ inr (half_alike rules run world first second settled stands.told steps stands.part half)
    ];
  }
