-- Lives one after another come to one run.
use Rattle.std.proofs.Common.{◌≡◌, ℕ, List, [], ◌++◌, sym, ◌∙◌, ap, subst, arith, append_assoc}
use Rattle.std.proofs.lemmas.List.Elements.{All-push}
use Rattle.std.specs.List.{All}
use Rattle.dura_model.proofs.Outcomes.{never_twice}
use Rattle.dura_model.specs.Steps.{Label}
use Rattle.flow_syntax.specs.Syntax.{Flows}
use Rattle.join_laws.proofs.Answers.{said_still, settled_still}
use Rattle.join_laws.proofs.Living.{AllBehind, life_comes_to}
use Rattle.join_laws.specs.Joined.{AllKeep, Life, LivesOn, IsOrderly, IsSettledIn, IsSaidBy, AreJoined}
use Rattle.join_laws.specs.Joined.LivesOn.{no_life, one_more}
use Rattle.many_logs.proofs.OrdersStand.{orders_stand}
use Rattle.many_logs.specs.Labels.{labels_of_commits}
use Rattle.many_logs.specs.Placing.{Commit}
use Rattle.many_logs.specs.Stands.{FilesStand}
use Rattle.run_laws.proofs.Ordered.{never_overlaps}
use Rattle.site_model.specs.History.{Step, IsImage}

-- what holds of each of these has what follows from it
all_with : {X : Type 0} (P Q : X → Type 0) (xs : List X) → ((x : X) → P x → Q x) → All P xs → All Q xs
all_with P Q xs f all = λ k d inside. f _ (all k d inside)

-- what these lives settled and said stays in a run that goes on
all_settled : (run more longer : List Commit) (lives : List Life) → run ++ more ≡ longer → All (IsSettledIn run) lives → All (IsSettledIn longer) lives
all_settled run more longer lives goes all = all_with (IsSettledIn run) (IsSettledIn longer) lives (λ life is. subst (λ (l : List Commit). IsSettledIn l life) goes (settled_still run more life is)) all

all_said : (flows : Flows) (run more longer : List Commit) (lives : List Life) → run ++ more ≡ longer → All (IsSaidBy flows run) lives → All (IsSaidBy flows longer) lives
all_said flows run more longer lives goes all = all_with (IsSaidBy flows run) (IsSaidBy flows longer) lives (λ life is. subst (λ (l : List Commit). IsSaidBy flows l life) goes (said_still flows run more life is)) all

-- So many lives have come to this: whatever a crash leaves keeps what came behind the start, in which is what they settled, and by which they
-- spoke.
record ComeTo (flows : Flows) (count digest : ℕ) (start : List Commit) (lives : List Life) (last : List Step) : Type 0 where
  pub behind : List Commit
  pub keep : AllBehind flows count digest start behind last
  pub settled : All (IsSettledIn (start ++ behind)) lives
  pub said : All (IsSaidBy flows (start ++ behind)) lives

-- a legal run is orderly
orderly : (flows : Flows) (count digest : ℕ) (files : ℕ → List ℕ) (labels : List Label) → FilesStand flows count digest files labels → IsOrderly flows labels
orderly flows count digest files labels stands = record {
  once = λ id task. never_twice flows labels _ stands.legal id task;
  apart = λ front rest world split legal overlap. never_overlaps flows front world legal overlap;
}

module _ (flows : Flows) (count digest : ℕ) (first : List Step) (start : List Commit) (keep : AllKeep flows count digest start first) where
  come_to : {lives : List Life} {last : List Step} → LivesOn flows count digest first lives last → ComeTo flows count digest start lives last
  come_to no_life = record {
    behind = [];
    keep = λ image left. let kept = keep image left in record { more = kept.more; kept = kept.kept; founded = kept.founded };
    settled = λ k d inside. absurd (omega (arith, inside));
    said = λ k d inside. absurd (omega (arith, inside));
  }
  come_to (one_more {lives} {before} so_far life is begins_on) =
      let then = come_to so_far in
      let now = life_comes_to flows count digest start then.behind before then.keep life is begins_on in
      let goes : (start ++ then.behind) ++ now.more ≡ start ++ now.after = append_assoc start then.behind now.more ∙ ap (λ (l : List Commit). start ++ l) (sym now.goes) in record {
        behind = now.after;
        keep = now.keep;
        settled = All-push (IsSettledIn (start ++ now.after)) lives life (all_settled (start ++ then.behind) now.more (start ++ now.after) lives goes then.settled) now.settled;
        said = All-push (IsSaidBy flows (start ++ now.after)) lives life (all_said flows (start ++ then.behind) now.more (start ++ now.after) lives goes then.said) now.said;
      }

pub lives_joined : (flows : Flows) (count digest : ℕ) (first last : List Step) (run : List Commit) (lives : List Life) → AllKeep flows count digest run first → LivesOn flows count digest first lives last
    → (image : ℕ → List ℕ) → IsImage last image → AreJoined flows count digest run lives image
lives_joined flows count digest first last run lives keep all image left =
    let then = come_to flows count digest first run keep all in
    let now = then.keep image left in
    let whole = run ++ (then.behind ++ now.more) in
    let goes : (run ++ then.behind) ++ now.more ≡ whole = append_assoc run then.behind now.more in
    let stands : FilesStand flows count digest image (labels_of_commits whole) = orders_stand flows count digest image whole now.kept.states now.kept.below now.kept.kept now.kept.made now.kept.given in record {
      kept = record { more = then.behind ++ now.more; kept = now.kept; founded = now.founded };
      stands = stands;
      orderly = orderly flows count digest image (labels_of_commits whole) stands;
      settled = all_settled (run ++ then.behind) now.more whole lives goes then.settled;
      said = all_said flows (run ++ then.behind) now.more whole lives goes then.said;
    }
